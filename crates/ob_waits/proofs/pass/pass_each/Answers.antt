use Rattle.std.proofs.Common.{sym, ◌∙◌, zero, arith}
use Rattle.ob_waits.proofs.PassLaws.{covered_all, covers_order}
use Rattle.ob_waits.proofs.Settling.{settled_same}
use Rattle.ob_waits.proofs.pass.pass_each.Goals as goal

pub returns-then-is_empty-clause-scene : goal.returns-then-is_empty-clause-scene
returns-then-is_empty-clause-scene g c = sym (covered_all c.args.pending_index.now.order zero _ (search arith)
    (covers_order (g.B.Bodies.objects c.args.bodies.now) c.args.live.now c.args.pending_index.now.order
    c.args.pending_index.now.index c.requires.right))

pub returns-else-not-pass_some-clause-scene : goal.returns-else-not-pass_some-clause-scene
returns-else-not-pass_some-clause-scene g c =
    sym (search (arith, settled_same)) ∙ c.pass_some.ensures.same
