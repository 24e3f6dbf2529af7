-- The flags of a handle as sets of bits.
use Rattle.std.specs.Prelude.{◌≡◌, ℕ, Bool, ◌==◌, ◌<◌, if◌then◌else◌, bit_and, bit_or}
use Rattle.std.specs.Int.{bit_at, bit_not, w32}
use Rattle.ob_rights.specs.declared.handle_flags.HandleFlags.{HandleFlags}
use Rattle.ob_rights.specs.Rights.{within}

-- whether a handle is protected from close: it has the flag PROTECT_FROM_CLOSE, which is 2
abbrev pub is_protected : HandleFlags → Bool
is_protected flags = within 2 flags.0

-- the flags, where those in a mask become what is given
abbrev pub changed_flags : HandleFlags → ℕ → ℕ → HandleFlags
changed_flags flags mask given = record { 0 = bit_or (bit_and flags.0 (bit_not w32 mask)) (bit_and given mask) }

-- the same bit by bit: each bit of the mask is the one that is given, and each other bit stays
abbrev pub IsChanged : ℕ → ℕ → ℕ → ℕ → Type 0
IsChanged flags mask given after = (bit : ℕ) → bit < 32
    → bit_at after bit ≡ (if bit_at mask bit == 1 then bit_at given bit else bit_at flags bit)
