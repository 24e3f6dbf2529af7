use Rattle.std.proofs.Common.{arith}
use Rattle.ob_manager.proofs.Waited.{from_start}
use Rattle.ob_manager.proofs.waiting.objects_of.Goals as goal

pub loop-handle-init : goal.loop-handle-init
loop-handle-init g c = search (arith, from_start)
