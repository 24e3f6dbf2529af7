use Rattle.ob_waits.proofs.Cited.{◌≡◌, drop, without_blocks}
use Rattle.ob_waits.proofs.pass.leave_each.Given as goal

abbrev pub invariant-loop-id : goal.invariant-loop-id
invariant-loop-id g l = record {
  same : without_blocks (g.B.Bodies.objects l.bodies) (drop l.id-index l.ids)
      ≡ without_blocks (g.B.Bodies.objects l.fn.bodies) l.ids;
  rest : g.B.Bodies.rest l.bodies ≡ g.B.Bodies.rest l.fn.bodies;
}
