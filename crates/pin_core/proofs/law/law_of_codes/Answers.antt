use Rattle.pin_core.specs.SpellingLaws.{descr_codec}
use Rattle.pin_core.proofs.law.law_of_codes.Goals as goal

pub returns-clause-spelled_descrs : goal.returns-clause-spelled_descrs
returns-clause-spelled_descrs c = descr_codec
