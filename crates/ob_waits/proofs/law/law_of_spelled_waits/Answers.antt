use Rattle.ob_waits.specs.SpellingLaws.{waits_again, waits_take}
use Rattle.ob_waits.proofs.law.law_of_spelled_waits.Goals as goal

pub returns : goal.returns
returns c = record { again = waits_again; takes = waits_take }
