-- A world: the slots, what was published, and who holds what.
use Rattle.std.specs.Prelude.{ℕ, ◌+◌, ◌&&◌, Bool, false, List, [], replicate, slice_index_or}
use Rattle.ob_rights.specs.declared.kind.Kind.TheVariants as kind
use Rattle.pin_core.specs.declared.word.Word.{Word}
use Rattle.pin_core.specs.declared.id.Id.{Id}
use Rattle.pin_core.specs.declared.descr.Descr.{Descr}
use Rattle.pin_core.specs.declared.word.Phase.TheVariants.{Free}
use Rattle.pin_core.specs.declared.shape.Shape.{Shape}
use Rattle.pin_core.specs.declared.world.Slot.{Slot}
use Rattle.pin_core.specs.declared.holders.Hold.{Hold}
use Rattle.pin_core.specs.Descrs.{same_descr}
use Rattle.pin_core.specs.Holds.{tally, same_id, is_at_slot, is_copy, is_hold, hold_of}

-- `holders` is a set of triples (reader, Id, copy number). No count is kept
pub record WorldState : Type 0 where
  pub shape : Shape
  pub slots : List Slot
  pub published : List (Id × Descr)
  pub holders : List Hold

-- an event that is reset by itself
abbrev pub auto_event : Descr
auto_event = record { kind = kind.Event; manual = false; max = 0 }

abbrev pub opening_slot : Slot
opening_slot = record { generation = 1; phase = Free; descr = auto_event }

-- the opening world
abbrev pub opening_of : Shape → WorldState
opening_of k = record { shape = k; slots = replicate k.slots opening_slot; published = []; holders = [] }

abbrev pub slot_of : List Slot → ℕ → Slot
slot_of slots s = slice_index_or slots s opening_slot

abbrev pub at : WorldState → ℕ → Slot
at w s = slot_of w.slots s

-- the Id that the slot has now
abbrev pub id_at : WorldState → ℕ → Id
id_at w s = record { slot = s; generation = (at w s).generation }

-- how many triples are about the slot
abbrev pub pins : WorldState → ℕ → ℕ
pins w s = tally (is_at_slot s) w.holders

-- how many copies of the Id the reader holds
abbrev pub copies : WorldState → ℕ → Id → ℕ
copies w r id = tally (is_copy r id) w.holders

-- how often the triple stands in the set
abbrev pub times : WorldState → Hold → ℕ
times w t = tally (is_hold t) w.holders

-- the reader's copy of highest number
abbrev pub last_copy : WorldState → ℕ → Id → Hold
last_copy w r id = hold_of r id (copies w r id)

-- the copy of the slot's Id that the reader would hold next
abbrev pub next_copy : WorldState → ℕ → ℕ → Hold
next_copy w r s = hold_of r (id_at w s) (copies w r (id_at w s) + 1)

abbrev pub word_at : WorldState → ℕ → Word
word_at w s = record { generation = (at w s).generation; phase = (at w s).phase; pins = pins w s }

abbrev pub is_of : Id → (Id × Descr) → Bool
is_of id p = same_id p.0 id

abbrev pub is_with : Id → Descr → (Id × Descr) → Bool
is_with id d p = same_id p.0 id && same_descr p.1 d

-- how often the Id was published, and how often with this descriptor
abbrev pub given : WorldState → Id → ℕ
given w id = tally (is_of id) w.published

abbrev pub given_as : WorldState → Id → Descr → ℕ
given_as w id d = tally (is_with id d) w.published
