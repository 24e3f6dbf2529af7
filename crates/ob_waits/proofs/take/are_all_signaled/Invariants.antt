use Rattle.ob_waits.proofs.Cited.{◌≡◌, take, true, list_all, is_signaled}
use Rattle.ob_waits.proofs.take.are_all_signaled.Given as goal

abbrev pub invariant-loop-id : goal.invariant-loop-id
invariant-loop-id g l = list_all (is_signaled l.thread (g.B.Bodies.objects l.bodies).bodies) (take l.id-index l.ids)
    ≡ true
