use Rattle.std.proofs.Common.{arith}
use Rattle.ob_script.proofs.Cuts.{behind_first}
use Rattle.ob_script.proofs.words.cut_far.Goals as goal

pub returns-clause-behind : goal.returns-clause-behind
returns-clause-behind c = search (arith, behind_first)
