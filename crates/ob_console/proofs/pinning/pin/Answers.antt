use Rattle.std.proofs.Common.{arith}
use Rattle.ob_console.proofs.Attempting.{pins}
use Rattle.ob_console.proofs.pinning.pin.Goals as goal

pub returns-clause-pins : goal.returns-clause-pins
returns-clause-pins c =
    pins c.args.manager.now c.args.reader.now.view _ _ c.meet-2.new.reader.view c.args.id _ c.kept.ensures
    c.same_shape.ensures (search (arith, c.shape.ensures.view, c.same_shape.ensures)) c.meet.ensures.look
    c.try_descr-answer.ensures.attempts (rw c.meet.ensures.same at c.meet-2.ensures.look)
