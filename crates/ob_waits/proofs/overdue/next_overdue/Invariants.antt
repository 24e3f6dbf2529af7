use Rattle.ob_waits.proofs.Cited.{count_by, AreListed}
use Rattle.least.specs.Dues.{is_by}
use Rattle.ob_waits.proofs.overdue.next_overdue.Given as goal

abbrev pub invariant-loop-thread : goal.invariant-loop-thread
invariant-loop-thread l = AreListed l.live l.deadlines

abbrev pub decreases-loop-thread : goal.decreases-loop-thread
decreases-loop-thread l = count_by (is_by l.now) l.deadlines
