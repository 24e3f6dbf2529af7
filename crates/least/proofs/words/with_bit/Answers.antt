use Rattle.std.proofs.lemmas.Nat.Bits.{bit_at_set_same, bit_at_set_other}
use Rattle.std.proofs.Common.{arith}
use Rattle.least.proofs.words.with_bit.Goals as goal

pub returns-clause-bit_is : goal.returns-clause-bit_is
returns-clause-bit_is c = search (arith, bit_at_set_same)

pub returns-clause-others : goal.returns-clause-others
returns-clause-others c = search (arith, bit_at_set_other)
