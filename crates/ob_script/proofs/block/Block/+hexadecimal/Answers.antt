use Rattle.ob_script.proofs.Cited.{arith, append_assoc}
use Rattle.ob_script.proofs.Hexadecimal.{step}
use Rattle.ob_script.proofs.block.Block.+hexadecimal.Goals as goal

pub returns-clause-value : goal.returns-clause-value
returns-clause-value t c = search (arith, append_assoc, step)
