use Rattle.std.proofs.Common.{sym, arith}
use Rattle.ob_console.proofs.Sparing.{spares}
use Rattle.ob_console.proofs.reaping.meet_at.Goals as goal

pub returns-in-Some-clause-spares : goal.returns-in-Some-clause-spares
returns-in-Some-clause-spares c before reply step =
    let there = c.in-Some.ensures.is_there in
    let inside = rw (c.slot_of_held-slot.ensures.slot, c.same_shape.ensures) at c.slot_of_held-slot.ensures.inside in
    rw there.0 at (spares before c.args.manager.now c.args.reader.now.view c.meet.new.reader.view c.in-Some.id reply
    (search arith) c.kept.ensures inside (rw (sym c.held.ensures) there.1) (search arith))
