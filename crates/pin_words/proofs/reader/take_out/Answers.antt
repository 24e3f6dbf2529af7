use Rattle.pin_words.proofs.Cited.{arith, drop_all, append-nil}
use Rattle.pin_words.proofs.reader.take_out.Goals as goal

pub returns-then-place-len : goal.returns-then-place-len
returns-then-place-len c = search (arith, append-nil, drop_all)
