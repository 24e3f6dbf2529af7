use Rattle.std.proofs.Common.{arith}
use Rattle.std.proofs.lemmas.List.{drop_all}
use Rattle.ob_manager.proofs.Rising.{handles_apart}
use Rattle.ob_manager.proofs.Waited.{from_start}
use Rattle.ob_manager.proofs.waiting.objects_rise.Goals as goal

pub loop-handle-init : goal.loop-handle-init
loop-handle-init g c = search (arith, from_start)

pub returns-clause-apart : goal.returns-clause-apart
returns-clause-apart g c = λ yes. search (arith, handles_apart, drop_all)
