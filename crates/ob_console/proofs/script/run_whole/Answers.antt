use Rattle.std.proofs.Common.{arith}
use Rattle.ob_console.proofs.Reading.{whole_ended}
use Rattle.ob_console.proofs.script.run_whole.Goals as goal

pub returns-clause-answers : goal.returns-clause-answers
returns-clause-answers g c = search (arith, whole_ended)
