use Rattle.pin_words.proofs.Cited.{arith, drop_last-absent}
use Rattle.pin_words.proofs.reader.forget.Goals as goal

pub returns-in_default : goal.returns-in_default
returns-in_default c = search (arith, drop_last-absent)
