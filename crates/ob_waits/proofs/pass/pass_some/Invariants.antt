use Rattle.ob_waits.proofs.Cited.{◌≡◌, Covers, Fits, Scene, settled}
use Rattle.ob_waits.proofs.Keeping.{Fade}
use Rattle.ob_waits.proofs.MergeLaws.{Remains}
use Rattle.ob_waits.proofs.pass.pass_some.Given as goal

abbrev pub invariant-loop : goal.invariant-loop
invariant-loop g l = record {
  same : ◌≡◌ {A = Scene} (settled (record { objects = g.B.Bodies.objects l.bodies; waits = l.live }))
      (settled (record { objects = g.B.Bodies.objects l.fn.bodies; waits = l.fn.live }));
  rest : g.B.Bodies.rest l.bodies ≡ g.B.Bodies.rest l.fn.bodies;
  covers : Covers l.pending_index.order (record { objects = g.B.Bodies.objects l.bodies; waits = l.live });
  remains : Remains l.last l.pending_index.index l.ids (record { objects = g.B.Bodies.objects l.bodies; waits = l.live });
  fits : Fits 2147483647 (g.B.Bodies.objects l.bodies).bodies l.live;
  fade : Fade l.fn.live l.live;
}
