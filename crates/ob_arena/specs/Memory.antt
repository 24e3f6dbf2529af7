-- The memory that a storage of slots owns and lends, at bodies of the type B.
use Rattle.std.specs.Prelude.{ℕ, ◌+◌, ◌*◌, ◌^◌, List, [], ◌∷◌, length, Option, Some, None}
use Rattle.std.specs.Mem.{type_size}
use base.Fraction.{full_share}
use base.Fml.{Lft, Fml, ftrue, ffalse, fsep, flt, froom}
use mir.Syntax.{Ty, ty_array}
use mir.Raw.{raw}
use denote.RattleType.{RattleType}
use denote.Memory.{lone, part_at, shared_of}
use denote.Sharing.{nothing, said, beside}
use denote.RawPtr.{Ptr, block_ptr, null_ptr}

module _ (B : RattleType) where
  -- a slot at the offset o of a block: its body, or room for one
  abbrev pub slot : ℕ → ℕ → Option B.Denot → Fml
  slot block o (Some body) = part_at B full_share body block o
  slot block o None = froom (raw (lone B.mir)) block o

  -- slots side by side
  abbrev pub slots : ℕ → ℕ → List (Option B.Denot) → Fml
  slots block o [] = ftrue
  slots block o (s ∷ ss) = fsep (slot block o s) (slots block (o + type_size B) ss)

  -- what a `&` to a slot reaches: its body, or nothing
  abbrev pub slot_lent : ℕ → ℕ → Option B.Denot → Lft → Fml
  slot_lent block o (Some body) = shared_of B body block o
  slot_lent block o None = nothing

  abbrev pub slots_lent : ℕ → ℕ → List (Option B.Denot) → Lft → Fml
  slots_lent block o [] = nothing
  slots_lent block o (s ∷ ss) = beside (slot_lent block o s) (slots_lent block (o + type_size B) ss)

  -- the slots have fewer than 2 ^ 63 bytes
  abbrev pub fit : List (Option B.Denot) → Fml
  fit ss = flt (length ss * type_size B) (2 ^ 63)

  abbrev pub storage_owns : Ptr → List (Option B.Denot) → Fml
  storage_owns (block_ptr block o) ss = fsep (fit ss) (slots block o ss)
  storage_owns null_ptr ss = ffalse

  abbrev pub storage_lends : Ptr → List (Option B.Denot) → Lft → Fml
  storage_lends (block_ptr block o) ss = beside (said (fit ss)) (slots_lent block o ss)
  storage_lends null_ptr ss = said ffalse

  -- the allocator's token for the memory of n slots
  abbrev pub title_owns : (Ty → Ptr → Fml) → Ptr → ℕ → Fml
  title_owns token p n = token (raw (ty_array (lone B.mir) n)) p
