-- Ids and descriptors as bytes.
use Rattle.std.specs.Prelude.{ℕ, ◌<◌, ◌^◌, List}
use Rattle.std.specs.Int.{w32, w64, to_le_bytes}
use Rattle.ob_codec.specs.Reading.{Read, as_at, both_at, number_at, some_at}
use Rattle.ob_codec.specs.Spelling.{BothFit, both}
use Rattle.pin_core.specs.Descrs.{decoded, encoded}
use Rattle.pin_core.specs.declared.descr.Descr.{Descr}
use Rattle.pin_core.specs.declared.id.Id.{Id}

abbrev pub id_of : ℕ × ℕ → Id
id_of p = record { slot = p.0; generation = p.1 }

abbrev pub parts_of : Id → ℕ × ℕ
parts_of id = (id.slot, id.generation)

-- the slot and the generation, four bytes each
abbrev pub id_text : Id → List ℕ
id_text id = both (to_le_bytes w32) (to_le_bytes w32) (parts_of id)

abbrev pub id_at : List ℕ → Read Id
id_at = as_at id_of (both_at (number_at w32) (number_at w32))

abbrev pub IdFits : Id → Type 0
IdFits id = BothFit (λ n. n < 2 ^ 32) (λ n. n < 2 ^ 32) (parts_of id)

-- the word of a descriptor; one that a word can have (`IsGiven`) is spelled so
abbrev pub descr_text : Descr → List ℕ
descr_text descr = to_le_bytes w64 (encoded descr)

abbrev pub descr_at : List ℕ → Read Descr
descr_at = some_at decoded (number_at w64)
