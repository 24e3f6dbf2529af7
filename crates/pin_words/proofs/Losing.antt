-- What a try to pin that lost its exchange found.
use Rattle.std.proofs.Common.{arith}
use Rattle.std.proofs.lemmas.Bool.Decides.{nat_tests}
use Rattle.pin_words.proofs.Cited.{ℕ, ℕ_discrete, decoded, verdict_of, reader_looked, LostSeesNoEarlier}

pub lost-onward : LostSeesNoEarlier
lost-onward r r' id seen t = grind (arith, nat_tests, verdict_of, decoded, ℕ, reader_looked, ℕ_discrete)
