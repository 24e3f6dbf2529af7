use Rattle.std.proofs.Common.{arith}
use Rattle.ob_console.proofs.Reading.{cut_from}
use Rattle.ob_console.proofs.script.run_over.Goals as goal

pub returns-clause-err : goal.returns-clause-err
returns-clause-err g c = search (arith, cut_from)
