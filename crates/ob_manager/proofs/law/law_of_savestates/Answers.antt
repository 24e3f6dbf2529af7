use Rattle.ob_manager.proofs.SavestateLaws.{loads_takes, with_takes}
use Rattle.ob_manager.proofs.law.law_of_savestates.Goals as goal

pub returns : goal.returns
returns c = record { takes = loads_takes; takes_with = with_takes }
