use Rattle.ob_waits.proofs.Cited.{◌≡◌, false, None, Some, get_or, arith, thread_of, is_pending}
use Rattle.ob_waits.proofs.DeadlineLaws.{timely_removed}
use Rattle.ob_waits.proofs.TrackedLaws.{tracked_left, tracked_removed}
use Rattle.ob_waits.proofs.Writes.{set_none}
use Rattle.ob_waits.proofs.waits.Waits.take_if_answered.Goals as goal

pub invariant_of-self : goal.invariant_of-self
invariant_of-self c =
    let s = c.self.inside in
    let own : thread_of (get_or s.live c.args.wait None) ≡ Some c.in-Some.field-0.now.thread =
    search arith in
    let over : is_pending (get_or c.remove.new.self c.args.wait None) ≡ false =
    search (arith, set_none) in (
      tracked_left s.limit c.remove.new.self s.pending_index c.forget.new.self (c.forget.ensures c.remove.new.self over)
          (search (arith, tracked_removed, c.remove.ensures)),
      search (arith, timely_removed, c.remove.ensures),
    )
