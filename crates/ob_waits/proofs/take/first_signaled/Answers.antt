use Rattle.ob_waits.proofs.Cited.{arith, is_signaled}
use Rattle.ob_waits.proofs.Now.{first_here, first_later, first_past}
use Rattle.ob_waits.proofs.take.first_signaled.Goals as goal

pub loop-i-preserved : goal.loop-i-preserved
loop-i-preserved g c = first_later (is_signaled c.args.thread (g.B.Bodies.objects c.args.bodies.now).bodies)
    c.args.ids.now c.loop-i.i c.loop-i.invariant (search arith) (search arith)

pub returns-clause-value : goal.returns-clause-value
returns-clause-value g c = first_past (is_signaled c.args.thread (g.B.Bodies.objects c.args.bodies.now).bodies)
    c.args.ids.now c.loop-i.i c.loop-i.invariant (search arith)

pub returns-then-is_signaled-clause-value : goal.returns-then-is_signaled-clause-value
returns-then-is_signaled-clause-value g c = first_here
    (is_signaled c.args.thread (g.B.Bodies.objects c.args.bodies.now).bodies)
    c.args.ids.now c.loop-i.i c.loop-i.invariant (search arith) (search arith)
