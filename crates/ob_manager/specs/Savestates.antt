-- A savestate: a mark with the format's version, the state, and the SHA-256 digest of both.
use Rattle.std.specs.Prelude.{◌==◌, ℕ, Bool, List, ◌++◌, Result, Ok, Err, if◌then◌else◌}
use Rattle.std.specs.Int.{w64, to_le_bytes}
use Rattle.ob_codec.specs.declared.fault.TextFault.{TextFault}
use Rattle.ob_codec.specs.declared.fault.TextFault.TheVariants.{Value}
use Rattle.ob_codec.specs.Reading.{◌>>=◌, Read, as_at, both_at, number_at, where_at}
use Rattle.ob_codec.specs.Sealing.{loaded, sealed}
use Rattle.ob_codec.specs.Spelling.{both}
use Rattle.ob_store.specs.SavedStore.{store_at, store_text}
use Rattle.ob_store.specs.State.{Whole}
use Rattle.ob_manager.specs.HostData.{HostData, data_at, data_text, is_empty, no_data}

-- the letters OBJS in four bytes, and version 1 in four more
abbrev pub mark : ℕ
mark = 5692342863

abbrev pub is_mark : ℕ → Bool
is_mark n = n == mark

abbrev pub saved : Whole → List ℕ
saved w = sealed (both (to_le_bytes w64) store_text (mark, w))

abbrev pub behind_mark : ℕ × Whole → Whole
behind_mark p = p.1

abbrev pub marked_at : List ℕ → Read Whole
marked_at = as_at behind_mark (both_at (where_at is_mark (number_at w64)) store_at)

abbrev pub load : List ℕ → Result Whole TextFault
load = loaded marked_at

-- With what a host keeps, if it ever kept anything: the letters OBJD and version 1, what it keeps, the state, and the
-- digest of them all.
abbrev pub data_mark : ℕ
data_mark = 5440684623

abbrev pub saved_with : HostData → Whole → List ℕ
saved_with d w = if is_empty d then saved w else sealed (to_le_bytes w64 data_mark ++ (data_text d ++ store_text w))

abbrev pub kept_some : HostData → List ℕ → Read HostData
kept_some d rest = if is_empty d then Err Value else Ok (d, rest)

-- what a host keeps stands behind its mark, and nothing behind the other
abbrev pub data_behind : ℕ → List ℕ → Read HostData
data_behind n bytes =
    if n == data_mark then (data_at bytes >>= λ (d : HostData × List ℕ). kept_some d.0 d.1)
    else (if n == mark then Ok (no_data, bytes) else Err Value)

abbrev pub whole_with_at : List ℕ → Read (Whole × HostData)
whole_with_at bytes = do
  m ← number_at w64 bytes
  d ← data_behind m.0 m.1
  w ← store_at d.1
  Ok ((w.0, d.0), w.1)

abbrev pub load_with : List ℕ → Result (Whole × HostData) TextFault
load_with = loaded whole_with_at
