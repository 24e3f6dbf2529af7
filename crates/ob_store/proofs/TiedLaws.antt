-- What holds of objects and their keeper holds after each change.
use Rattle.ob_store.proofs.Cited.{at_place, ◌≡◌, ℕ, ◌<◌, ◌≤◌, List, length, None, refl, arith, get_or, set, true, false, and_parts, get_or-set_same, set-get_or, nat_tests, Id, Slot, slot_of, Body, is_vacant_at, without_block, HasBodies, ObjectsInvariant, is_some, Places, ObjectsState, ObjectAttributes, vacancy, with_keeper, object_in, without_handle, without_header, places_in, ◌&&◌}
use Rattle.pin_core.specs.declared.word.Phase.TheVariants as phase
use Rattle.pin_core.specs.Descrs.{IsGiven}
use Rattle.pin_core.specs.Events.{in_phase, with_descr}
use Rattle.pin_words.specs.declared.view.Look.{Look}
use Rattle.pin_words.specs.Keepers.{closed, with_looks, opened_again}
use Rattle.ob_waits.specs.CountedBodies as waits
use Rattle.ob_waits.proofs.Ends.{ends_left}
use Rattle.ob_store.specs.Objects.{with_object, with_header, with_retired, is_last_handle, is_last_block, rest_of}
use Rattle.ob_store.proofs.AgreeLaws.{object_at, body_at, slot_at}
use Rattle.ob_store.proofs.ListLaws.{listed_added}
use Rattle.ob_store.proofs.EndLaws.{bodied_handle_left}
use Rattle.ob_store.proofs.BirthLaws.{made_set, made_more, made_bound, born_added, born_gone}

-- a body goes, and its slot closes
pub tied_ended : (s : ObjectsState) (seen : waits.CountedBodies) (k : ℕ) → seen.bodies ≡ set s.seen.bodies k None
    → is_some (body_at s k) ≡ true → HasBodies seen → ObjectsInvariant s
    → ObjectsInvariant (record s { seen = seen; keeper = closed s.keeper k })
tied_ended s seen k bodies there has h = grind (arith, at_place, made_set)

-- the count of births has room
pub births_few : (s : ObjectsState) → ObjectsInvariant s → s.births ≤ 281474976645120
births_few s h = search (arith, made_bound)

-- the last handle of an object leaves
pub tied_handle_left : (s : ObjectsState) (k : ℕ) → 0 < get_or s.seen.handles k 0
    → is_some (body_at s k) && is_last_handle (places_in s) k ≡ true → ObjectsInvariant s
    → ObjectsInvariant (with_keeper (without_handle (places_in s) k) s.births (closed s.keeper k))
tied_handle_left s k some ends h =
    let is = and_parts (is_some (body_at s k)) (is_last_handle (places_in s) k) ends in
    tied_ended s _ k (search arith) is.0 (bodied_handle_left (places_in s) k some h.bodied) h

-- a block of an object leaves, and with the last one the body
module _ (s : ObjectsState) (q : Places) (id : Id) (seen : q.seen ≡ without_block s.seen id)
    (rest : rest_of q ≡ rest_of (places_in s)) (h : ObjectsInvariant s) where
  left : q ≡ record (places_in s) { seen = without_block s.seen id }
  left = search arith

  pub tied_block_ended : is_some (body_at s id.slot) && is_last_block (places_in s) id.slot ≡ true
      → ObjectsInvariant (with_keeper q s.births (closed s.keeper id.slot))
  tied_block_ended ends = rw left (tied_ended s _ _ (search arith) (and_parts _ _ ends).0 (ends_left id _ h.bodied) h)

  pub tied_block_left : is_some (body_at s id.slot) && is_last_block (places_in s) id.slot ≡ false
      → ObjectsInvariant (with_keeper q s.births s.keeper)
  tied_block_left ends = search (arith, set-get_or, ends_left)

-- a new object in a vacant slot
pub tied_added : (s t : ObjectsState) (k : ℕ) (attributes : ObjectAttributes) (body : Body)
    → t ≡ with_object s k attributes body → is_vacant_at (vacancy (places_in s)) k ≡ true
    → get_or (with_header (places_in s) k (object_in s k attributes) body).seen.handles k 0 ≡ 1
    → IsGiven attributes.descr → ObjectsInvariant s → ObjectsInvariant t
tied_added s t k attributes body is vacant one given h =
    let within : k < length s.keeper.slots = search arith in
    let y : Slot = with_descr (slot_at s k) attributes.descr in
    let stored : slot_of (set s.keeper.slots k y) k ≡ y = search (arith, get_or-set_same) in
    let more = made_more (set s.keeper.slots k y) k (in_phase (slot_of (set s.keeper.slots k y) k) phase.Live) in
    grind (arith, at_place, born_added, listed_added, made_set s.keeper.slots k y within refl, more)

-- the slot of an ended object is taken back, and is free at the next generation
pub tied_freed : (s : ObjectsState) (k : ℕ) (looks : List Look) → is_some (object_at s k) ≡ true → body_at s k ≡ None
    → (slot_at s k).generation < s.keeper.shape.max_gen → ObjectsInvariant s
    → ObjectsInvariant (with_keeper (without_header (places_in s) k) s.births (with_looks (opened_again s.keeper k) looks))
tied_freed s k looks there ended below h = grind (arith, nat_tests, at_place, born_gone, made_set)

-- or at the last generation it is given up for good
pub tied_retired : (s : ObjectsState) (k : ℕ) (looks : List Look) → is_some (object_at s k) ≡ true → body_at s k ≡ None
    → s.keeper.shape.max_gen ≤ (slot_at s k).generation → ObjectsInvariant s
    → ObjectsInvariant (with_keeper (with_retired (without_header (places_in s) k) k) s.births
    (with_looks (opened_again s.keeper k) looks))
tied_retired s k looks there ended last h = grind (arith, nat_tests, at_place, born_gone, made_set)
