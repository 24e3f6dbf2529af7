use Rattle.std.proofs.Common.{arith}
use Rattle.ob_waits.proofs.TrackedLaws.{tracked_none}
use Rattle.ob_waits.proofs.DeadlineLaws.{timely_none}
use Rattle.ob_waits.proofs.waits.Waits.new.Goals as goal

pub invariant_of-result : goal.invariant_of-result
invariant_of-result c = search (arith, timely_none, tracked_none, c.new-2.ensures, c.new-3.ensures, c.new.ensures)
