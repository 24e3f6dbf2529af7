use Rattle.std.proofs.Common.{arith}
use Rattle.least.proofs.LevelLemmas.{full_word, full_word_past}
use Rattle.least.proofs.NextLemmas.{bit_at_shifted}
use Rattle.least.proofs.words.low_bits.Goals as goal

pub returns-else-k-eq0-clause-set : goal.returns-else-k-eq0-clause-set
returns-else-k-eq0-clause-set c = search (arith, bit_at_shifted, full_word)

pub returns-else-k-eq0-clause-clear : goal.returns-else-k-eq0-clause-clear
returns-else-k-eq0-clause-clear c = search (arith, bit_at_shifted, full_word_past)
