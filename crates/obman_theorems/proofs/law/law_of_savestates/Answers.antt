use Rattle.obman_theorems.proofs.Saving.{alike, one_savestate}
use Rattle.obman_theorems.proofs.law.law_of_savestates.Goals as goal

pub returns : goal.returns
returns c = record { one = one_savestate; alike = alike }
