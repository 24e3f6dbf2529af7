-- The slots whose objects ended, while bodies go and objects leave.
use Rattle.ob_store.proofs.Cited.{◌≡◌, ℕ, ◌<◌, List, length, Option, Some, None, refl, arith, get_or, set, map, Bool, true, false, cond, length-map, Body, slot_acquired, ObjectHeader, Tag, objects_in, header_body, IsSome, is_some, is_open, not}
use Rattle.std.specs.Prelude.{slice_get}
use Rattle.std.proofs.lemmas.Option.{slice_get-get_or}
use Rattle.least.specs.Taken.{is_free_within}
use Rattle.ob_store.specs.Closing.{is_closing_in}
use Rattle.ob_store.proofs.LabelLaws.{object_read, header_there}
use Rattle.ob_store.proofs.OwnerLaws.{some_there}
use Rattle.ob_store.proofs.HeaderLaws.{read, mapped_same, mapped_set, mapped_stays}

module _ (xs : List (Option ObjectHeader)) (opens : List Bool) (k : ℕ) (opened : opens ≡ map is_open xs) where
  -- the set of numbers has those slots that have an object without a body
  pub closing_read : (ls : List Tag) → is_free_within opens k ≡ is_closing_in (objects_in xs ls) (map header_body xs) k
  closing_read ls = search (arith, object_read, read)

  -- an object comes to a vacant slot, ended or not
  pub vacant_open : k < length xs → get_or xs k None ≡ None → slice_get opens k ≡ Some true
  vacant_open within none = rw (slice_get-get_or opens k true (search (arith, length-map)), opened, read is_open xs k, none) refl

  pub opened_back : (y : ObjectHeader) (ended : Bool) → get_or xs k None ≡ None → is_some y.body ≡ not ended
      → cond ended (set opens k false) opens ≡ map is_open (set xs k (Some y))
  opened_back y ended none is = search (arith, mapped_same, mapped_set)

  module _ (x : ObjectHeader) (there : get_or xs k None ≡ Some x) where
    -- a slot with an object, by its body
    pub opened_at : slice_get opens k ≡ Some (is_some x.body)
    opened_at = rw (slice_get-get_or opens k true (search (arith, length-map, some_there)), opened, read is_open xs k, there) refl

    -- a body goes, or stays
    pub opened_left_at : (y : ObjectHeader) (b : Bool) (o : Option Body) → o ≡ cond b x.body None
        → y.body ≡ cond b None x.body → cond (is_some o) (set opens k false) opens ≡ map is_open (set xs k (Some y))
    opened_left_at = search (arith, mapped_set, mapped_stays)

    -- a body that goes was there
    pub gone_was_there : (b : Bool) (o : Option Body) → o ≡ cond b x.body None → is_some o ≡ true → slice_get opens k ≡ Some true
    gone_was_there = search (arith, opened_at)

  -- an object without a body
  pub ended_here : (ls : List Tag) → IsSome (get_or (objects_in xs ls) k None) → get_or (map header_body xs) k None ≡ None
      → slice_get opens k ≡ Some false
  ended_here ls there ended = by (get_or xs k None) refl (header_there xs ls k there)
    where
      by : (x : Option ObjectHeader) → get_or xs k None ≡ x → IsSome (get_or xs k None) → slice_get opens k ≡ Some false
      by x is some = grind (arith, opened_at, read is_open xs k, read header_body xs k)

-- a header with a body, by the bodies that are read off the headers
pub bodied : (xs : List (Option ObjectHeader)) (k : ℕ) (x : ObjectHeader) → get_or xs k None ≡ Some x
    → IsSome (get_or (map header_body xs) k None) → is_some x.body ≡ true
bodied xs k x there some = search (arith, read)

-- a body that is acquired stays
pub body_stays : (thread : ℕ) (b : Option Body) → is_some (slot_acquired thread b) ≡ is_some b
body_stays = search arith

-- a slot has an object where it has a header
pub object_there : (xs : List (Option ObjectHeader)) (ls : List Tag) (k : ℕ)
    → is_some (get_or xs k None) ≡ is_some (get_or (objects_in xs ls) k None)
object_there xs ls k = search (arith, object_read)
