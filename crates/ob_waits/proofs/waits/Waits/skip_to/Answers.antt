use Rattle.ob_waits.proofs.Cited.{arith}
use Rattle.ob_waits.proofs.SkipLaws.{timely_skipped, tracked_skipped}
use Rattle.ob_waits.proofs.StandingLaws.{kept_can_be}
use Rattle.ob_waits.proofs.waits.Waits.skip_to.Goals as goal

pub invariant_of-self : goal.invariant_of-self
invariant_of-self c =
    let s = c.self.inside in
    let next = rw (← c.self.view_is) at c.requires.next in
    let most = rw (← c.self.view_is) at c.requires.most in
    let timely = timely_skipped c.args.last s.live s.clock s.deadlines c.self.invariant.1 in
    rw c.skip_to.ensures
    (tracked_skipped c.args.last s.live s.limit s.pending_index next most c.self.invariant.0, timely)

pub returns-clause-can_be : goal.returns-clause-can_be
returns-clause-can_be c = search (arith, invariant_of-self c, kept_can_be)
