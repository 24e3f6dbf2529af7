use Rattle.ob_manager.proofs.AlikeLaws.{answers_alike}
use Rattle.ob_manager.proofs.LimitLaws.{step_limits}
use Rattle.ob_manager.proofs.StepLaws.{step_next}
use Rattle.ob_manager.proofs.law.law_of_steps.Goals as goal

pub returns : goal.returns
returns c = record { next = step_next; alike = answers_alike; limits = step_limits }
