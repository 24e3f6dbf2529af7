-- What is true of every world that events lead to.
use Rattle.std.specs.Prelude.{◌≡◌, ◌≢◌, ℕ, ◌+◌, ◌*◌, ◌<◌, ◌≤◌, ◌&&◌, nat_lt, nat_le, Bool, true, false, List, length, None}
use Rattle.pin_core.specs.declared.id.Id.{Id}
use Rattle.pin_core.specs.declared.descr.Descr.{Descr}
use Rattle.pin_core.specs.declared.word.Phase.{Phase}
use Rattle.pin_core.specs.declared.word.Phase.TheVariants.{Free, Live, Retired, Closing}
use Rattle.pin_core.specs.declared.shape.Shape.{Shape}
use Rattle.pin_core.specs.declared.world.Slot.{Slot}
use Rattle.pin_core.specs.declared.event.Event.{Event}
use Rattle.pin_core.specs.declared.event.Event.TheVariants.{StoreDescr, Publish, Reclaim}
use Rattle.pin_core.specs.Holds.{weight, hold_of}
use Rattle.pin_core.specs.Worlds.{WorldState, opening_of, at, id_at, pins, copies, times, given, given_as}
use Rattle.pin_core.specs.Events.{refusal, after_all, IsSchedule}

-- a slot that may be held
abbrev pub may_be_held : Phase → Bool
may_be_held Free = false
may_be_held Live = true
may_be_held Retired = false
may_be_held Closing = true

-- its generation is within the limit, and is the last where the slot is retired; the Id of a live or closing slot is
-- published with the slot's descriptor; that of a free slot isn't yet
pub record SlotIsSafe (w : WorldState) (s : ℕ) : Type 0 where
  pub bounded : (at w s).generation ≤ w.shape.max_gen
  pub last : (at w s).phase ≡ Retired → (at w s).generation ≡ w.shape.max_gen
  pub shown : may_be_held (at w s).phase ≡ true → given_as w (id_at w s) (at w s).descr ≡ 1
  pub unshown : (at w s).phase ≡ Free → given w (id_at w s) ≡ 0

-- a held Id is that of its slot, which is live or closing; a reader's copies of an Id are numbered from 1 on, each
-- once; no slot has too many pins; no Id is published twice, nor ahead of its slot
pub record IsSafe (w : WorldState) : Type 0 where
  pub wide : length w.slots ≡ w.shape.slots
  pub held : (r : ℕ) (id : Id) → 0 < copies w r id
      → (id.slot < w.shape.slots) × ((at w id.slot).generation ≡ id.generation)
      × (may_be_held (at w id.slot).phase ≡ true)
  pub numbered : (r : ℕ) (id : Id) (k : ℕ) → times w (hold_of r id k) ≡ weight (nat_lt 0 k && nat_le k (copies w r id))
  pub room : (s : ℕ) → pins w s ≤ w.shape.max_pins
  pub slots : (s : ℕ) → s < w.shape.slots → SlotIsSafe w s
  pub once : (id : Id) → given w id ≤ 1
  pub below : (id : Id) → 0 < given w id → (id.slot < w.shape.slots) × (id.generation ≤ (at w id.slot).generation)

-- the phases in the order of a generation's life
abbrev pub rank_of : Phase → ℕ
rank_of Free = 0
rank_of Live = 1
rank_of Closing = 2
rank_of Retired = 3

-- generation and phase in one number
abbrev pub age : Slot → ℕ
age x = x.generation * 4 + rank_of x.phase

-- the world that the events lead to from the opening one
abbrev pub reached : Shape → List Event → WorldState
reached k es = after_all (opening_of k) es

-- a shape that has a first generation, and events that are each possible where they stand
abbrev pub AreEvents : Shape → List Event → Type 0
AreEvents k es = (1 ≤ k.max_gen) × IsSchedule (opening_of k) es

-- no event can take the slot from who holds it
abbrev pub StaysGiven : WorldState → ℕ → Type 0
StaysGiven w s = ((d : Descr) → refusal w (StoreDescr s d) ≢ None) × (refusal w (Publish s) ≢ None)
    × (refusal w (Reclaim s) ≢ None)
