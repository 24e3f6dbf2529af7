use Rattle.ob_waits.proofs.Cited.{◌≡◌, ◌≤◌, drop, eqb, true, numbers_of, Thins, Scene, settled, Covers, Fits, IsReadyBy}
use Rattle.ob_waits.proofs.Keeping.{Fade}
use Rattle.ob_waits.proofs.pass.pass_slot.Given as goal

abbrev pub invariant-loop-at : goal.invariant-loop-at
invariant-loop-at g l = record {
  same : ◌≡◌ {A = Scene} (settled (record { objects = g.B.Bodies.objects l.bodies; waits = l.live }))
      (settled (record { objects = g.B.Bodies.objects l.fn.bodies; waits = l.fn.live }));
  rest : g.B.Bodies.rest l.bodies ≡ g.B.Bodies.rest l.fn.bodies;
  covers : Covers (drop l.at (numbers_of l.pending_index.index l.id.slot)) (record {
    objects = g.B.Bodies.objects l.bodies;
    waits = l.live;
  });
  fits : Fits 2147483647 (g.B.Bodies.objects l.bodies).bodies l.live;
  ready : IsReadyBy (λ k. eqb k l.id.slot) (g.B.Bodies.objects l.bodies).bodies l.live;
  fade : Fade l.fn.live l.live;
  all : l.all ≡ true → Thins l.live (numbers_of l.pending_index.index l.id.slot)
      (drop l.over (numbers_of l.pending_index.index l.id.slot));
  most : l.over ≤ l.at;
  whole : l.all ≡ true → l.over ≡ l.at;
}
