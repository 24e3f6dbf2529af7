-- That a mask is within another, by its number and by its bits.
use Rattle.std.proofs.Common.{◌≡◌, ◌⊎◌, ℕ, arith, inl, inr, IsTrue, bit_and, ◌↔◌}
use Rattle.std.proofs.lemmas.Nat.Bits.{bit_at_and, and_pow, same_from_bits}
use Rattle.std.specs.Int.{IsBitSet, bit_at}
use Rattle.ob_rights.specs.Rights.{IsWithin, within}

-- a bit that is set is 1
set-one : (n k : ℕ) → IsBitSet n k → bit_at n k ≡ 1
set-one n k set = grind (arith, and_pow n k)

-- a bit that is 1 is set
one-set : (n k : ℕ) → bit_at n k ≡ 1 → IsBitSet n k
one-set n k one = search (arith, and_pow)

-- a mask whose bits stay under the other has its bits there
bits-within : (asked held : ℕ) → bit_and held asked ≡ asked → IsWithin asked held
bits-within asked held same bit set =
    search (arith, and_pow, bit_at_and)

-- a bit of the common part, where it is set only with the other
common-bit : (asked held bit : ℕ) → IsWithin asked held → (bit_at asked bit ≡ 0) ⊎ (bit_at asked bit ≡ 1)
    → bit_at (bit_and held asked) bit ≡ bit_at asked bit
common-bit asked held bit inside (inl zero') = search (arith, bit_at_and)
common-bit asked held bit inside (inr one) = search (arith, and_pow, bit_at_and)

-- a mask that has its bits in the other stays under it
within-bits : (asked held : ℕ) → IsWithin asked held → bit_and held asked ≡ asked
within-bits asked held inside =
    same_from_bits (bit_and held asked) asked (search (arith, and_pow, bit_at_and))

-- the test says whether each bit of the one is a bit of the other
pub within-included : (asked held : ℕ) → IsTrue (within asked held) ↔ IsWithin asked held
within-included asked held = search (arith, bits-within, within-bits)
