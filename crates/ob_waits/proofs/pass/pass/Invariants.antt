use Rattle.ob_waits.proofs.Cited.{◌≡◌, drop, Scene, settled, Covers, Fits}
use Rattle.ob_waits.proofs.pass.pass.Given as goal

abbrev pub invariant-loop-number : goal.invariant-loop-number
invariant-loop-number g l = record {
  same : ◌≡◌ {A = Scene} (settled (record { objects = g.B.Bodies.objects l.bodies; waits = l.live }))
      (settled (record { objects = g.B.Bodies.objects l.fn.bodies; waits = l.fn.live }));
  rest : g.B.Bodies.rest l.bodies ≡ g.B.Bodies.rest l.fn.bodies;
  covers : Covers (drop l.number-index l.numbers) (record { objects = g.B.Bodies.objects l.bodies; waits = l.live });
  fits : Fits 2147483647 (g.B.Bodies.objects l.bodies).bodies l.live;
}
