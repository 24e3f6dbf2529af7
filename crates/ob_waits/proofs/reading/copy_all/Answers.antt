use Rattle.ob_waits.proofs.Cited.{None, arith, get_or, le-ltb, append-nil}
use Rattle.ob_waits.proofs.RenewedLaws.{alone_before, copied_all, copied_next, room_before}
use Rattle.ob_waits.proofs.StandingLaws.{stands}
use Rattle.ob_waits.proofs.reading.copy_all.Goals as goal

pub put_wait-requires-clause-stands : goal.put_wait-requires-clause-stands
put_wait-requires-clause-stands c =
    let n = c.in-Some.number in
    grind (arith, stands c.args.copy.now.clock (get_or c.args.live.now n None) (c.requires.tracked.kept.each n) (c.requires.ahead.each n))

pub put_wait-requires-clause-alone : goal.put_wait-requires-clause-alone
put_wait-requires-clause-alone c = search (arith, alone_before)

pub put_wait-requires-clause-below_limit : goal.put_wait-requires-clause-below_limit
put_wait-requires-clause-below_limit c =
    let room = room_before c.args.live.now c.loop-number.last c.in-Some.number c.args.copy.now.limit
    c.in-Some-get.wait.now c.requires.tracked.zero_has_none c.requires.tracked.at_most c.in-Some.ensures.above
    (search arith) in
    search (arith, le-ltb, room)

pub loop-number-preserved-in-Continue-1 : goal.loop-number-preserved-in-Continue-1
loop-number-preserved-in-Continue-1 c =
    search (arith, copied_next c.args.live.now c.loop-number.last c.in-Some.number c.in-Some.ensures.above c.in-Some.ensures.least)

pub loop-number-preserved : goal.loop-number-preserved
loop-number-preserved c =
    search (arith, append-nil, copied_next c.args.live.now c.loop-number.last c.in-Some.number c.in-Some.ensures.above c.in-Some.ensures.least)

pub returns : goal.returns
returns c = search (arith, copied_all)
