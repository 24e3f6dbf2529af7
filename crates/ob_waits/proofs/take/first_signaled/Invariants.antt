use Rattle.ob_waits.proofs.Cited.{◌≤◌, first_signaled}
use Rattle.ob_waits.proofs.take.first_signaled.Given as goal

abbrev pub invariant-loop-i : goal.invariant-loop-i
invariant-loop-i g l = l.i ≤ first_signaled l.thread (g.B.Bodies.objects l.bodies).bodies l.ids
