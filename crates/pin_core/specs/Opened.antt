-- A world that begins with given slots, which nobody holds.
use Rattle.std.specs.Prelude.{◌≡◌, ℕ, suc, ◌<◌, ◌≤◌, if◌then◌else◌, List, [], ◌∷◌, length}
use Rattle.pin_core.specs.declared.id.Id.{Id}
use Rattle.pin_core.specs.declared.descr.Descr.{Descr}
use Rattle.pin_core.specs.declared.word.Phase.TheVariants.{Retired}
use Rattle.pin_core.specs.declared.shape.Shape.{Shape}
use Rattle.pin_core.specs.declared.world.Slot.{Slot}
use Rattle.pin_core.specs.Descrs.{IsGiven}
use Rattle.pin_core.specs.Worlds.{WorldState, slot_of}
use Rattle.pin_core.specs.Safety.{may_be_held}

-- the Ids of the live and closing slots from a number on, each with its slot's descriptor
abbrev pub shown_from : ℕ → List Slot → List (Id × Descr)
shown_from s [] = []
shown_from s (x ∷ xs) =
    if may_be_held x.phase then (record { slot = s; generation = x.generation }, x.descr) ∷ shown_from (suc s) xs
    else shown_from (suc s) xs

-- what is published at first is just the Id of each live or closing slot: none of an object that is gone
abbrev pub opened_with : Shape → List Slot → WorldState
opened_with k slots = record { shape = k; slots = slots; published = shown_from 0 slots; holders = [] }

-- a slot that a world may begin with: a word can have its descriptor, and its generation is within the limit, at which
-- alone it is retired
pub record SlotOpens (max_gen : ℕ) (x : Slot) : Type 0 where
  pub given : IsGiven x.descr
  pub bounded : x.generation ≤ max_gen
  pub last : x.phase ≡ Retired → x.generation ≡ max_gen

pub record Opens (k : Shape) (slots : List Slot) : Type 0 where
  pub wide : length slots ≡ k.slots
  pub each : (s : ℕ) → s < k.slots → SlotOpens k.max_gen (slot_of slots s)
