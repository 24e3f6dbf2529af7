use Rattle.ob_waits.proofs.Ends.{ends_settled}
use Rattle.ob_waits.proofs.EndsLast.{ends_last}
use Rattle.ob_waits.proofs.law.law_of_ends.Goals as goal

pub returns : goal.returns
returns c = record { bodies = ends_settled; last = ends_last }
