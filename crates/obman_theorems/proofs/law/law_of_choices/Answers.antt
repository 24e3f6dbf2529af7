use Rattle.obman_theorems.proofs.Choices.{left_open}
use Rattle.obman_theorems.proofs.law.law_of_choices.Goals as goal

pub returns : goal.returns
returns c = left_open
