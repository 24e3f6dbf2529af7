-- What ties the objects to the keeper, slot by slot.
use Rattle.std.specs.Prelude.{◌≡◌, ℕ, ◌-◌, ◌<◌, ◌≤◌, Bool, true, false, List, Option, Some, None, length, slice_index_or, sum_by}
use Rattle.pin_core.specs.declared.id.Id.{Id}
use Rattle.pin_core.specs.declared.descr.Descr.{Descr}
use Rattle.pin_core.specs.declared.word.Phase.{Phase}
use Rattle.pin_core.specs.declared.word.Phase.TheVariants.{Free, Live, Closing, Retired}
use Rattle.pin_core.specs.declared.world.Slot.{Slot}
use Rattle.pin_core.specs.Holds.{tally}
use Rattle.pin_core.specs.Opened.{Opens}
use Rattle.pin_core.specs.Worlds.{slot_of, is_with}
use Rattle.pin_words.specs.declared.pin_keeper.Reclaim.{Reclaim}
use Rattle.pin_words.specs.declared.pin_keeper.Reclaim.TheVariants as outcome
use Rattle.pin_words.specs.Keepers.{Reclaims}
use Rattle.ob_body.specs.declared.body.Body.{Body}
use Rattle.ob_waits.specs.Rules.{HasBodies}
use Rattle.ob_store.specs.Objects.{Object, ObjectsState, with_keeper, places_in, without_header, with_retired}

-- live with a body, closing without one
abbrev pub phase_of : Option Body → Phase
phase_of None = Closing
phase_of (Some body) = Live

abbrev pub vacant_phase : Bool → Phase
vacant_phase true = Retired
vacant_phase false = Free

-- a slot without an object is free or retired; the object of a slot has its generation and its descriptor
abbrev pub Agrees : ℕ → Option Object → Option Body → Bool → Slot → Type 0
Agrees s None body retired x = (body ≡ None) × (x.phase ≡ vacant_phase retired)
Agrees s (Some o) body retired x = (o.id ≡ record { slot = s; generation = x.generation }) × (o.descr ≡ x.descr)
    × (x.phase ≡ phase_of body) × (retired ≡ false)

pub record IsAgreed (s : ObjectsState) : Type 0 where
  pub at_most : s.keeper.shape.slots ≤ 65536
  pub wide : length s.keeper.slots ≡ s.keeper.shape.slots
  pub length_is : length s.objects ≡ s.keeper.shape.slots
  pub bodied : length s.seen.bodies ≡ s.keeper.shape.slots
  pub marked : length s.retired ≡ s.keeper.shape.slots
  pub each : (k : ℕ) → k < s.keeper.shape.slots → Agrees k (slice_index_or s.objects k None)
      (slice_index_or s.seen.bodies k None) (slice_index_or s.retired k false) (slot_of s.keeper.slots k)

-- each object's Id is published with its descriptor
abbrev pub Listed : List (Id × Descr) → Option Object → Type 0
Listed ps None = Unit {0}
Listed ps (Some o) = 0 < tally (is_with o.id o.descr) ps

pub record IsListed (published : List (Id × Descr)) (objects : List (Option Object)) : Type 0 where
  pub each : (k : ℕ) → Listed published (slice_index_or objects k None)

-- how many objects a slot had: one in each generation, but none yet in the present one of a free slot
abbrev pub made_by : Phase → ℕ → ℕ
made_by Free generation = generation - 1
made_by phase generation = generation

abbrev pub made_in : Slot → ℕ
made_in x = made_by x.phase x.generation

-- objects are numbered by their births: each number is below their count, and no two have the same
pub record AreBorn (objects : List (Option Object)) (births : ℕ) : Type 0 where
  pub below : (k : ℕ) (o : Object) → slice_index_or objects k None ≡ Some o → o.birth < births
  pub apart : (j k : ℕ) (o p : Object) → slice_index_or objects j None ≡ Some o → slice_index_or objects k None ≡ Some p
      → o.birth ≡ p.birth → j ≡ k

-- what holds of objects and their keeper whenever no call is under way
pub record ObjectsInvariant (s : ObjectsState) : Type 0 where
  pub agreed : IsAgreed s
  pub listed : IsListed s.keeper.published s.objects
  -- a further keeper may begin with the slots, so a word can have each object's descriptor
  pub opens : Opens s.keeper.shape s.keeper.slots
  pub bodied : HasBodies s.seen
  pub born : AreBorn s.objects s.births
  pub aged : (k : ℕ) → k < s.keeper.shape.slots → (1 ≤ (slot_of s.keeper.slots k).generation)
      × ((slot_of s.keeper.slots k).generation ≤ s.keeper.shape.max_gen)
  pub last : s.keeper.shape.max_gen ≤ 4294967295
  pub made : s.births ≡ sum_by made_in s.keeper.slots

-- what a reclaim leaves: the object leaves a slot that is freed or retired, and stays in one that somebody holds
abbrev pub Reclaimed : ObjectsState → ℕ → Reclaim → ObjectsState → Type 0
Reclaimed s k outcome.Freed t = (t ≡ with_keeper (without_header (places_in s) k) s.births t.keeper)
    × Reclaims s.keeper k outcome.Freed t.keeper
Reclaimed s k outcome.Retired t = (t ≡ with_keeper (with_retired (without_header (places_in s) k) k) s.births t.keeper)
    × Reclaims s.keeper k outcome.Retired t.keeper
Reclaimed s k (outcome.Held n) t = (t ≡ record s { keeper = t.keeper }) × Reclaims s.keeper k (outcome.Held n) t.keeper
