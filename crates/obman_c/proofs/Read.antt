-- What is told of a reader's calls, by what a function knows of them.
use Rattle.std.proofs.Common.{◌≡◌, ℕ, ◌<◌, true, List, [], ◌∷◌, length, get_or, Option, Some, refl, inl, inr, arith}
use Rattle.std.specs.Prelude.{Ok, Err}
use Rattle.pin_core.specs.declared.id.Id.{Id}
use Rattle.pin_core.specs.declared.descr.Descr.{Descr}
use Rattle.pin_core.specs.Holds.{drop_last, same_id, tally}
use Rattle.pin_core.proofs.Counts.{count-drop_last}
use Rattle.pin_core.proofs.Moves.{same_id-same}
use Rattle.pin_words.specs.declared.fault.PinFault.{PinFault}
use Rattle.pin_words.specs.Plays.{Show}
use Rattle.pin_words.specs.Seats.{ReaderState}
use Rattle.pin_words.specs.Tries.{Tries}
use Rattle.pin_words.specs.Views.{reader_noted, reader_released}
use Rattle.ob_store.specs.Giving.{given_by, with_next}
use Rattle.ob_store.specs.Meetings.{IsMet}
use Rattle.ob_store.specs.State.{Whole}
use Rattle.ob_manager.specs.declared.card.Card.{Card}
use Rattle.ob_manager.specs.Counting.{card}
use Rattle.obman_c_base.specs.declared.owned.OwnedReader.{OwnedReader}
use Rattle.obman_c.specs.declared.pinning.Description.{Description}
use Rattle.obman_c.specs.declared.readers.Descriptor.{Descriptor}
use Rattle.obman_c.specs.Finding.{description_of}
use Rattle.obman_c.specs.Pinning.{pin_status}
use Rattle.obman_c.specs.Reading.{AreOfOne, DescribeTold, InspectTold, IsHeld, PinTold, ReaderOpens, UnpinTold, opens, lacks, descriptor_of}

module _ {id : Id} {old new : ReaderState} {status : ℕ} where
  pub pinned : Tries old.view id (Ok tt) new.view → status ≡ 0 → PinTold id old status new
  pinned tries told = record { answer = Ok tt; tries = tries; told = told }

  pub refused : {fault : PinFault} → Tries old.view id (Err fault) new.view → status ≡ pin_status fault
      → PinTold id old status new
  refused {fault = fault} tries told = record { answer = Err fault; tries = tries; told = told }

  pub described : {before after : Descriptor} {d : Descr} → IsHeld id old → status ≡ 0 → after ≡ descriptor_of d
      → new.view ≡ reader_noted old.view id d → DescribeTold id old status new before after
  described {d = d} held told value noted = inl (held, told, (d, value, noted))

  pub undescribed : {before after : Descriptor} → (IsHeld id old → ⊥) → status ≡ 6 → new ≡ old → after ≡ before
      → DescribeTold id old status new before after
  undescribed none told same value = inr (none, told, λ i. (same i, value i))

  pub inspected : {m : Whole} {before after : Description} {made : Card} → IsHeld id old → status ≡ 0
      → card m.state id ≡ Some made → after ≡ description_of made → Show id made.descr old.view.notes
      → IsMet m.keeper old.view id.slot new.view → InspectTold m id old status new before after
  inspected {made = made} held told there value noted looked =
      inl (held, told, record { made = made; is_there = there; value = value; noted = noted; looked = looked })

  pub uninspected : {m : Whole} {before after : Description} → (IsHeld id old → ⊥) → status ≡ 6 → new ≡ old
      → after ≡ before → InspectTold m id old status new before after
  uninspected none told same value = inr (none, told, λ i. (same i, value i))

pub unpinned : (id : Id) {old new : ReaderState} {status : ℕ} → IsHeld id old → status ≡ 0
    → new.view ≡ reader_released old.view id → UnpinTold id old status new
unpinned id held told view = inl (held, told, view)

pub unheld : (id : Id) {old new : ReaderState} {status : ℕ} → (IsHeld id old → ⊥) → status ≡ 6 → new ≡ old
    → UnpinTold id old status new
unheld id none told same = inr (none, told, same)

-- no refusal of a pin is told as 0
pub not_told : {A : Type 0} (fault : PinFault) {status : ℕ} → status ≡ pin_status fault → status ≡ 0 → A
not_told fault is none = absurd (grind arith)

module _ {old new : Whole} {status : ℕ} {before after : Option OwnedReader} where
  pub opened : {r : ReaderState} → status ≡ 0 → after ≡ Some (record { reader = r }) → r.view ≡ given_by old.keeper
      → AreOfOne old r → new ≡ record old { keeper = with_next old.keeper } → ReaderOpens old status new before after
  opened {r = r} = opens r

  pub lacking : status ≡ 8 → after ≡ before → new ≡ record old { keeper = with_next old.keeper }
      → ReaderOpens old status new before after
  lacking told same given = lacks told same (inr given)

  pub lacking_owner : status ≡ 8 → after ≡ before → new ≡ old → ReaderOpens old status new before after
  lacking_owner told same kept = lacks told same (inl kept)

-- the first Id of which a copy is held
pub first_there : (held : List Id) (d : Id) → 0 < length held → 0 < tally (same_id (get_or held 0 d)) held
first_there [] d some = absurd (let c : ⊥ = omega arith in c)
first_there (x ∷ held) d some = search (arith, same_id-same)

every : (held : List Id) → tally (λ _. true) held ≡ length held
every [] = refl
every (x ∷ held) = omega (arith, every held)

-- with a copy less there are fewer
pub fewer : (id : Id) (held : List Id) → 0 < tally (same_id id) held
    → length (drop_last (same_id id) held) < length held
fewer id held some = omega (arith, every, count-drop_last (λ _. true) (same_id id) true held (λ x e. refl) some)
