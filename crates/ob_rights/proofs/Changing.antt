-- That changed flags are, bit by bit, those that are given in the mask and those that were there outside.
use Rattle.std.proofs.Common.{◌≡◌, ◌<◌, ℕ, arith, eqb, cond}
use Rattle.std.specs.Prelude.{bit_and, bit_or}
use Rattle.std.specs.Int.{bit_at, bit_not, w32}
use Rattle.std.proofs.lemmas.Nat.Bits.{bit_at_and, bit_at_or, bit_at_not}
use Rattle.std.proofs.lemmas.Bool.Decides.{nat_tests}

pub each_changed : (flags mask given bit : ℕ) → mask < 4294967296 → bit < 32
    → bit_at (bit_or (bit_and flags (bit_not w32 mask)) (bit_and given mask)) bit
    ≡ cond (eqb (bit_at mask bit) 1) (bit_at given bit) (bit_at flags bit)
each_changed flags mask given bit small low =
    grind (arith, nat_tests, bit_at_or (bit_and flags (bit_not w32 mask)) (bit_and given mask) bit, bit_at_and flags (bit_not w32 mask) bit, bit_at_and given mask bit, bit_at_not w32 mask bit small low)
