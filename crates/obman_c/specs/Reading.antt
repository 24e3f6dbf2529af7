-- What C is told by a reader and of one.
use Rattle.std.specs.Prelude.{◌≡◌, ◌<◌, ℕ, ◌⊎◌, Option, Some, Result}
use Rattle.pin_core.specs.declared.id.Id.{Id}
use Rattle.pin_core.specs.declared.descr.Descr.{Descr}
use Rattle.pin_core.specs.Holds.{same_id, tally}
use Rattle.pin_words.specs.declared.fault.PinFault.{PinFault}
use Rattle.pin_words.specs.Plays.{Show}
use Rattle.pin_words.specs.Seats.{ReaderState}
use Rattle.pin_words.specs.Tries.{Tries}
use Rattle.pin_words.specs.Views.{reader_noted, reader_released}
use Rattle.ob_store.specs.Giving.{given_by, with_next}
use Rattle.ob_store.specs.Meetings.{IsMet}
use Rattle.ob_store.specs.State.{Whole}
use Rattle.ob_manager.specs.declared.card.Card.{Card}
use Rattle.ob_manager.specs.Counting.{card}
use Rattle.obman_c_base.specs.declared.owned.OwnedReader.{OwnedReader}
use Rattle.obman_c.specs.declared.pinning.Description.{Description}
use Rattle.obman_c.specs.declared.readers.Descriptor.{Descriptor}
use Rattle.obman_c.specs.Finding.{description_of, kind_number}
use Rattle.obman_c.specs.Pinning.{status_of_pin}

abbrev pub IsHeld : Id → ReaderState → Type 0
IsHeld id r = 0 < tally (same_id id) r.view.held

-- the reader is one of this manager's: it was made from it, by `om_reader_new`
abbrev pub AreOfOne : Whole → ReaderState → Type 0
AreOfOne m r = m.keeper.table ≡ Some r.table

-- A place gets a reader of the manager's pins, of the next number and with nothing held, and 0 is told; or the place
-- stays as it is, and 8 is told for want of memory. Nothing else changes but that the number was given.
pub data ReaderOpens (old : Whole) (status : ℕ) (new : Whole) (before after : Option OwnedReader) : Type 0 where
  opens : (r : ReaderState) → status ≡ 0 → after ≡ Some (record { reader = r }) → r.view ≡ given_by old.keeper
      → AreOfOne old r → new ≡ record old { keeper = with_next old.keeper } → ReaderOpens old status new before after
  lacks : status ≡ 8 → after ≡ before → (new ≡ old) ⊎ (new ≡ record old { keeper = with_next old.keeper })
      → ReaderOpens old status new before after

-- the reader's own answer to one try, and its number
pub record PinTold (id : Id) (old : ReaderState) (status : ℕ) (new : ReaderState) : Type 0 where
  pub answer : Result (Unit {0}) PinFault
  pub tries : Tries old.view id answer new.view
  pub told : status ≡ status_of_pin answer

-- what is told where a copy of the Id is held, else 6, and nothing changes
abbrev pub WhereHeld : Id → ReaderState → ℕ → (V : Type 0) → V → V → Type 0 → Type 0
WhereHeld id r status V before after told = (IsHeld id r × (status ≡ 0) × told)
    ⊎ ((IsHeld id r → ⊥) × (status ≡ 6) × (after ≡ before))

-- one copy goes
abbrev pub UnpinTold : Id → ReaderState → ℕ → ReaderState → Type 0
UnpinTold id old status new = WhereHeld id old status ReaderState old new (new.view ≡ reader_released old.view id)

abbrev pub descriptor_of : Descr → Descriptor
descriptor_of d = record { kind = kind_number d.kind; max = d.max; manual = d.manual }

-- the descriptor that was read under the pin, which the reader notes
abbrev pub DescribeTold : Id → ReaderState → ℕ → ReaderState → Descriptor → Descriptor → Type 0
DescribeTold id old status new before after = WhereHeld id old status (ReaderState
    × Descriptor) (old, before) (new, after) ((d : Descr) × (after ≡ descriptor_of d)
    × (new.view ≡ reader_noted old.view id d))

-- the object of a held Id is there: its card, which is of the descriptor that the reader noted, if it did
pub record IsInspected (m : Whole) (id : Id) (old new : ReaderState) (after : Description) : Type 0 where
  pub made : Card
  pub is_there : card m.state id ≡ Some made
  pub value : after ≡ description_of made
  pub noted : Show id made.descr old.view.notes
  pub looked : IsMet m.keeper old.view id.slot new.view

abbrev pub InspectTold : Whole → Id → ReaderState → ℕ → ReaderState → Description → Description → Type 0
InspectTold m id old status new before after = WhereHeld id old status (ReaderState
    × Description) (old, before) (new, after) (IsInspected m id old new after)
