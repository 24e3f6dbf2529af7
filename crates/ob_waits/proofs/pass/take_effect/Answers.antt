use Rattle.std.proofs.Common.{arith}
use Rattle.ob_waits.proofs.PassLaws.{only_in}
use Rattle.ob_waits.proofs.pass.take_effect.Goals as goal

pub try_at-requires-clause-only : goal.try_at-requires-clause-only
try_at-requires-clause-only g c = only_in c.args.slot (g.B.Bodies.objects c.args.bodies.now).bodies c.args.live.now
    c.args.number c.in-Some.wait.now c.in-Pending.mode c.as_slice-ids.result.now c.requires.ready (search arith) (search arith)
