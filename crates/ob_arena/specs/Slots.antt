-- The slots of an arena: which body each has, and which slots are retired.
use Rattle.std.specs.Prelude.{◌≡◌, ℕ, nat_lt, Bool, true, false, not, ◌&&◌, List, length, replicate, Option, Some, None, is_none, get_or, slice_index_or, slice_set, find, count_by}
use Rattle.std.specs.List.{range_with_len}
use Rattle.std.specs.Coded.{Coded, code_by, coded×, coded_list, coded_option, coded_bool}
use Rattle.std.proofs.Common.{refl}

module _ {B : Type 0} where
  -- the slot has a body
  abbrev pub IsFilled : List (Option B) → ℕ → Type 0
  IsFilled slots at = (body : B) × (get_or slots at None ≡ Some body)

-- the body of each slot that has one, and whether each slot is retired
pub record Slots (B : Type 0) : Type 0 where
  pub bodies : List (Option B)
  pub retired : List Bool

abbrev pub slots_code : {B : Type 0} → Coded B → Coded (Slots B)
slots_code {B} code =
    code_by (List (Option B) × List Bool) (coded× (coded_list (coded_option code)) (coded_list coded_bool))
    (λ s. (s.bodies, s.retired)) (λ p. record { bodies = p.0; retired = p.1 }) (λ _. refl)

module _ {B : Type 0} where
  -- the body of a slot
  abbrev pub body_at : Slots B → ℕ → Option B
  body_at s slot = slice_index_or s.bodies slot None

  -- a slot that has no body and is not retired
  abbrev pub is_vacant_at : Slots B → ℕ → Bool
  is_vacant_at s slot = nat_lt slot (length s.bodies)
      && (is_none (body_at s slot) && not (slice_index_or s.retired slot false))

  -- the least such slot
  abbrev pub least_vacant : Slots B → Option ℕ
  least_vacant s = find (is_vacant_at s) (range_with_len 0 (length s.bodies))

  -- how many such slots there are
  abbrev pub vacant_count : Slots B → ℕ
  vacant_count s = count_by (is_vacant_at s) (range_with_len 0 (length s.bodies))

  -- the slots of a new arena
  abbrev pub vacant_slots : ℕ → Slots B
  vacant_slots n = record { bodies = replicate n None; retired = replicate n false }

  abbrev pub with_body : Slots B → ℕ → B → Slots B
  with_body s slot body = record s { bodies = slice_set s.bodies slot (Some body) }

  abbrev pub without_body : Slots B → ℕ → Slots B
  without_body s slot = record s { bodies = slice_set s.bodies slot None }

  abbrev pub with_retired : Slots B → ℕ → Slots B
  with_retired s slot = record s { retired = slice_set s.retired slot true }
