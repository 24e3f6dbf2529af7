-- What the bits of a number say of bytes.
use Rattle.std.specs.Prelude.{◌≡◌, ℕ, ◌<◌, Bool, List, slice_index, if◌then◌else◌}
use Rattle.std.specs.Int.{bit_at}

-- of the first n bytes, those that pass the test have their bits set, and no other bit is
pub record Marks (test : ℕ → Bool) (bytes : List ℕ) (n marks : ℕ) : Type 0 where
  pub each : (k : ℕ) → k < n → bit_at marks k ≡ (if test (slice_index bytes k) then 1 else 0)
  pub within : (k : ℕ) → bit_at marks k ≡ 1 → k < n
