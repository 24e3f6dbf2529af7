use Rattle.std.proofs.Common.{arith}
use Rattle.ob_script.proofs.Flushed.{flush_writes}
use Rattle.ob_console.proofs.console.Console.finish.Goals as goal

pub returns-in-Ok-clause-finishes : goal.returns-in-Ok-clause-finishes
returns-in-Ok-clause-finishes g c = grind (arith, flush_writes)
