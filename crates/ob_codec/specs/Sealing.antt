-- A text with its SHA-256 digest behind it.
use Rattle.std.specs.Prelude.{ℕ, ◌-◌, List, ◌++◌, length, take, drop, nat_lt, Result, Ok, Err, if◌then◌else◌}
use Rattle.std.specs.Str.{bytes_eq}
use Rattle.sha2.specs.Sha256.{sha256}
use Rattle.ob_codec.specs.declared.fault.TextFault.{TextFault}
use Rattle.ob_codec.specs.declared.fault.TextFault.TheVariants.{Short, Digest}
use Rattle.ob_codec.specs.Reading.{◌>>=◌, Read, whole_at}

abbrev pub sealed : List ℕ → List ℕ
sealed text = text ++ sha256 text

-- a text, where its digest is this
abbrev pub with_digest : List ℕ → List ℕ → Result (List ℕ) TextFault
with_digest text digest = if bytes_eq (sha256 text) digest then Ok text else Err Digest

-- the text before the last 32 bytes, which are its digest
abbrev pub unsealed : List ℕ → Result (List ℕ) TextFault
unsealed bytes =
    if nat_lt (length bytes) 32 then Err Short
    else with_digest (take (length bytes - 32) bytes) (drop (length bytes - 32) bytes)

-- a value that is all of a sealed text
abbrev pub loaded : {A : Type 0} → (List ℕ → Read A) → List ℕ → Result A TextFault
loaded read bytes = do
  text ← unsealed bytes
  whole_at read text
