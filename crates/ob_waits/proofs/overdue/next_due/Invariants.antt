use Rattle.ob_waits.proofs.Cited.{count_by, is_some, AreListed}
use Rattle.ob_waits.proofs.overdue.next_due.Given as goal

abbrev pub invariant-loop-due : goal.invariant-loop-due
invariant-loop-due l = AreListed l.live l.deadlines

abbrev pub decreases-loop-due : goal.decreases-loop-due
decreases-loop-due l = count_by is_some l.deadlines
