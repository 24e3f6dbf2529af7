-- What one thread is answered that has a manager and a reader of the same pins, over the manager's state and the copies
-- that the reader holds.
use Rattle.std.specs.Prelude.{◌≡◌, ◌≢◌, ◌⊎◌, ℕ, ◌<◌, ◌≤◌, nat_lt, Bool, false, if◌then◌else◌, List, [], ◌∷◌, ◌++◌, length, Option, Some, None, Result, Ok, Err, slice_index_or}
use Rattle.pin_core.specs.declared.id.Id.{Id}
use Rattle.pin_core.specs.declared.descr.Descr.{Descr}
use Rattle.pin_core.specs.declared.word.Word.{Word}
use Rattle.pin_core.specs.declared.word.Phase.{Phase}
use Rattle.pin_core.specs.Holds.{tally, drop_last, same_id}
use Rattle.pin_core.specs.Words.{decoded}
use Rattle.pin_words.specs.declared.fault.Verdict.{Verdict}
use Rattle.pin_words.specs.declared.fault.Verdict.TheVariants.{Unborn, Stale, PinsFull, Go}
use Rattle.pin_words.specs.declared.fault.PinFault.{PinFault}
use Rattle.pin_words.specs.declared.fault.PinFault.TheVariants as fault
use Rattle.pin_words.specs.declared.pin_keeper.Reclaim.{Reclaim}
use Rattle.pin_words.specs.declared.pin_keeper.Reclaim.TheVariants.{Freed, Retired, Held}
use Rattle.pin_words.specs.declared.view.Look.{Look}
use Rattle.pin_words.specs.Verdicts.{verdict_of}
use Rattle.pin_words.specs.Views.{is_of_slot, look}
use Rattle.ob_body.specs.declared.body.Body.{Body}
use Rattle.ob_store.specs.Objects.{Object}
use Rattle.ob_store.specs.Agreement.{phase_of, vacant_phase}
use Rattle.ob_store.specs.State.{State}
use Rattle.ob_manager.specs.declared.card.Card.{Card}
use Rattle.ob_manager.specs.Counting.{card}

abbrev pub is_held : Id → List Id → Bool
is_held id held = nat_lt 0 (tally (same_id id) held)

-- the phase of a slot: live while its object has a body and closing once it ended; without an object free, or retired
-- for good
abbrev pub phase_in : Option Object → Option Body → Bool → Phase
phase_in (Some object) body retired = phase_of body
phase_in None body retired = vacant_phase retired

abbrev pub phase_at : State → ℕ → Phase
phase_at s slot = phase_in (slice_index_or s.objects slot None) (slice_index_or s.bodies slot None)
    (slice_index_or s.retired slot false)

-- a word that the slot may have: its generation, its phase, and among its pins the copies that the reader holds there.
-- It has no more pins than there may be, as the reader has no more copies
pub record IsWord (s : State) (held : List Id) (slot : ℕ) (w : Word) : Type 0 where
  pub generation : w.generation ≡ slice_index_or s.generations slot 1
  pub phase : w.phase ≡ phase_at s slot
  pub pins : tally (is_of_slot slot) held ≤ w.pins
  pub room : tally (is_of_slot slot) held ≤ s.limits.max_pins → w.pins ≤ s.limits.max_pins

-- one copy more is held, and the answer is the object's descriptor
pub record IsPinned (s : State) (held : List Id) (id : Id) (res : Result Descr PinFault)
    (held' : List Id) : Type 0 where
  pub made : Card
  pub is_there : card s id ≡ Some made
  pub told : res ≡ Ok made.descr
  pub more : held' ≡ held ++ id ∷ []

-- meanwhile the reader found the word n of the slot
abbrev pub Finds : ℕ → List Look → List Look → ℕ → Type 0
Finds slot looks looks' n = (later earlier : List Look) × (looks' ≡ later ++ (look slot n ∷ (earlier ++ looks)))

-- the exchange found another word than n, by which it was judged
pub record IsBusy (Found : ℕ → Type 0) (n : ℕ) (held : List Id) (res : Result Descr PinFault)
    (held' : List Id) : Type 0 where
  pub seen : ℕ
  pub found : Found seen
  pub other : seen ≢ n
  pub told : res ≡ Err (fault.Busy (decoded seen))
  pub same : held' ≡ held

-- the answer by what the word n says of the Id
abbrev pub Judged : Verdict → (ℕ → Type 0) → ℕ → State → List Id → Id → Result Descr PinFault → List Id → Type 0
Judged Unborn Found n s held id res held' = (res ≡ Err fault.Unborn) × (held' ≡ held)
Judged Stale Found n s held id res held' = (res ≡ Err fault.Stale) × (held' ≡ held)
Judged PinsFull Found n s held id res held' = (res ≡ Err fault.PinsFull) × (held' ≡ held)
Judged Go Found n s held id res held' = IsPinned s held id res held' ⊎ IsBusy Found n held res held'

-- a pin, with the looks of the reader before and after: two refusals are exact, and else it is judged by a word that
-- was found, which the slot may have
pub record Pins (s : State) (held : List Id) (looks : List Look) (id : Id) (res : Result Descr PinFault)
    (held' : List Id) (looks' : List Look) : Type 0 where
  pub no_slot : s.limits.slots ≤ id.slot → (res ≡ Err fault.NoSuchSlot) × (held' ≡ held)
  pub full : id.slot < s.limits.slots → 16 ≤ length held → (res ≡ Err fault.HeldFull) × (held' ≡ held)
  pub tried : id.slot < s.limits.slots → length held < 16
      → (n : ℕ) × Finds id.slot looks looks' n × IsWord s held id.slot (decoded n)
      × Judged (verdict_of s.limits.max_pins id (decoded n)) (Finds id.slot looks looks') n s held id res held'

-- an unpin: whether the Id is held, and then its last copy less
abbrev pub Unpins : List Id → Id → Bool → List Id → Type 0
Unpins held id done held' = (done ≡ is_held id held)
    × (held' ≡ (if is_held id held then drop_last (same_id id) held else held))

-- the card of an Id that is held
abbrev pub shown_of : State → List Id → Id → Option Card
shown_of s held id = if is_held id held then card s id else None

-- a slot where a copy is held is not taken back
abbrev pub SparesHeld : List Id → ℕ → Reclaim → Type 0
SparesHeld held slot Freed = tally (is_of_slot slot) held ≡ 0
SparesHeld held slot Retired = tally (is_of_slot slot) held ≡ 0
SparesHeld held slot (Held pins) = Unit {0}
