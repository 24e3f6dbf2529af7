use Rattle.std.proofs.Common.{arith}
use Rattle.ob_console.proofs.Reading.{run_ended}
use Rattle.ob_console.proofs.script.run_bounded.Goals as goal

pub returns-clause-answers : goal.returns-clause-answers
returns-clause-answers g c = search (arith, run_ended)

pub returns-clause-write : goal.returns-clause-write
returns-clause-write g c is = search arith
