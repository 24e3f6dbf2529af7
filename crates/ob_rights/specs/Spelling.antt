-- Masks and flags as bytes: each as its number of 32 bits.
use Rattle.std.specs.Prelude.{ℕ, ◌<◌, ◌^◌, List}
use Rattle.std.specs.Int.{w32, to_le_bytes}
use Rattle.ob_codec.specs.Reading.{Read, as_at, number_at}
use Rattle.ob_rights.specs.declared.handle_flags.HandleFlags.{HandleFlags}
use Rattle.ob_rights.specs.declared.rights.Rights.{Rights}

abbrev pub rights_of : ℕ → Rights
rights_of bits = record { 0 = bits }

abbrev pub rights_text : Rights → List ℕ
rights_text rights = to_le_bytes w32 rights.0

abbrev pub rights_at : List ℕ → Read Rights
rights_at = as_at rights_of (number_at w32)

abbrev pub RightsFit : Rights → Type 0
RightsFit rights = rights.0 < 2 ^ 32

abbrev pub flags_of : ℕ → HandleFlags
flags_of bits = record { 0 = bits }

abbrev pub flags_text : HandleFlags → List ℕ
flags_text flags = to_le_bytes w32 flags.0

abbrev pub flags_at : List ℕ → Read HandleFlags
flags_at = as_at flags_of (number_at w32)

abbrev pub FlagsFit : HandleFlags → Type 0
FlagsFit flags = flags.0 < 2 ^ 32
