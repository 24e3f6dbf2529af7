use Rattle.ob_manager.proofs.AlikeLaws.{answers_alike}
use Rattle.obman_theorems.proofs.Rest.{steps}
use Rattle.obman_theorems.proofs.law.law_of_steps.Goals as goal

pub returns : goal.returns
returns c = record { made = steps; alike = answers_alike }
