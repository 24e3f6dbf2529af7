-- What is said of every keeper, of whatever kind.
use Rattle.std.specs.Prelude.{◌≡◌, ℕ, ◌<◌, ◌≤◌, List, [], ◌∷◌, ◌⊎◌, ◌++◌, nat_lt, if◌then◌else◌, length, replicate, slice_set, Option, Some, None, Result, Ok, Err}
use Rattle.pin_core.specs.declared.id.Id.{Id}
use Rattle.pin_core.specs.declared.descr.Descr.{Descr}
use Rattle.pin_core.specs.declared.word.Word.{Word}
use Rattle.pin_core.specs.declared.word.Phase.TheVariants.{Live, Closing}
use Rattle.pin_core.specs.declared.shape.Shape.{Shape}
use Rattle.pin_core.specs.declared.world.Slot.{Slot}
use Rattle.pin_core.specs.Words.{decoded}
use Rattle.pin_core.specs.Holds.{tally, drop_last, same_id}
use Rattle.pin_core.specs.Opened.{shown_from}
use Rattle.pin_core.specs.Worlds.{opening_slot, slot_of}
use Rattle.pin_core.specs.Events.{in_phase, with_descr, reclaimed}
use Rattle.pin_words.specs.declared.fault.Verdict.{Verdict}
use Rattle.pin_words.specs.declared.fault.Verdict.TheVariants.{Unborn, Stale, PinsFull, Go}
use Rattle.pin_words.specs.declared.fault.PinFault.{PinFault}
use Rattle.pin_words.specs.declared.fault.PinFault.TheVariants as fault
use Rattle.pin_words.specs.declared.pin_keeper.Reclaim.{Reclaim}
use Rattle.pin_words.specs.declared.pin_keeper.Reclaim.TheVariants.{Freed, Retired, Held}
use Rattle.pin_words.specs.declared.view.Look.{Look}
use Rattle.pin_words.specs.Verdicts.{verdict_of}
use Rattle.pin_words.specs.Seats.{TableState, KeeperSeat}
use Rattle.pin_words.specs.Plays.{TellsKeeper}
use Rattle.pin_words.specs.Views.{look, is_of_slot, id_of}

-- `table` is the identity of the words that it keeps, and none for a keeper under a lock; `published` is what it
-- published, in order; `next` is the next reader's number, `looks` are the words that it found, newest first, and
-- `held` are the copies of the one holder of a keeper under a lock
pub record KeeperState : Type 0 where
  pub table : Option TableState
  pub shape : Shape
  pub slots : List Slot
  pub published : List (Id × Descr)
  pub next : ℕ
  pub looks : List Look
  pub held : List Id

-- what a keeper over the words says
abbrev pub state_of : KeeperSeat → KeeperState
state_of k = record {
  table = Some k.table;
  shape = k.view.shape;
  slots = k.view.slots;
  published = k.view.published;
  next = k.view.next;
  looks = k.view.looks;
  held = [];
}

-- what a keeper under a lock says
abbrev pub locked : Shape → List Slot → List (Id × Descr) → List Id → KeeperState
locked shape slots published held = record {
  table = None;
  shape = shape;
  slots = slots;
  published = published;
  next = 1;
  looks = [];
  held = held;
}

-- a keeper of which nothing was asked yet
pub record IsFresh (k : KeeperState) (shape : Shape) : Type 0 where
  pub shape_is : k.shape ≡ shape
  pub slots_are : k.slots ≡ replicate shape.slots opening_slot
  pub published_is : k.published ≡ []
  pub held_is : k.held ≡ []

-- the same over given slots: each live or closing one is published, with its descriptor
pub record IsFreshWith (k : KeeperState) (shape : Shape) (slots : List Slot) : Type 0 where
  pub shape_is : k.shape ≡ shape
  pub slots_are : k.slots ≡ slots
  pub published_is : k.published ≡ shown_from 0 slots
  pub held_is : k.held ≡ []

abbrev pub with_slots : KeeperState → List Slot → KeeperState
with_slots k slots = record k { slots = slots }

abbrev pub with_published : KeeperState → List (Id × Descr) → KeeperState
with_published k published = record k { published = published }

abbrev pub with_looks : KeeperState → List Look → KeeperState
with_looks k looks = record k { looks = looks }

abbrev pub with_held : KeeperState → List Id → KeeperState
with_held k held = record k { held = held }

abbrev pub stored : KeeperState → ℕ → Descr → KeeperState
stored k s d = with_slots k (slice_set k.slots s (with_descr (slot_of k.slots s) d))

abbrev pub published : KeeperState → ℕ → KeeperState
published k s = with_published (with_slots k (slice_set k.slots s (in_phase (slot_of k.slots s) Live))) (k.published
    ++ (id_of k.slots s, (slot_of k.slots s).descr) ∷ [])

abbrev pub closed : KeeperState → ℕ → KeeperState
closed k s = with_slots k (slice_set k.slots s (in_phase (slot_of k.slots s) Closing))

abbrev pub opened_again : KeeperState → ℕ → KeeperState
opened_again k s = with_slots k (slice_set k.slots s (reclaimed k.shape.max_gen (slot_of k.slots s)))

-- at most one look more, at the slot s
abbrev pub HasLooked : ℕ → List Look → List Look → Type 0
HasLooked s ls ls' = (ls' ≡ ls) ⊎ ((n : ℕ) × (ls' ≡ look s n ∷ ls))

-- what a reclaim of any keeper answers: freed below the last generation, or retired at it, where its own holder has
-- nothing there; or held. It may have looked
abbrev pub Reclaims : KeeperState → ℕ → Reclaim → KeeperState → Type 0
Reclaims k s Freed k' = (k' ≡ with_looks (opened_again k s) k'.looks)
    × ((slot_of k.slots s).generation < k.shape.max_gen) × (tally (is_of_slot s) k.held ≡ 0)
    × HasLooked s k.looks k'.looks
Reclaims k s Retired k' = (k' ≡ with_looks (opened_again k s) k'.looks)
    × (k.shape.max_gen ≤ (slot_of k.slots s).generation) × (tally (is_of_slot s) k.held ≡ 0)
    × HasLooked s k.looks k'.looks
Reclaims k s (Held n) k' = (k' ≡ with_looks k k'.looks) × (0 < n) × (n ≤ k.shape.max_pins)
    × HasLooked s k.looks k'.looks

-- what a reclaim over the words answers: it found the word n of the slot, and is held exactly by the pins that are in
-- it
abbrev pub ReclaimsFound : KeeperState → ℕ → Reclaim → KeeperState → Type 0
ReclaimsFound k s res k' = (n : ℕ) × TellsKeeper k.shape k.slots s n
    × ((decoded n).pins ≡ 0 → (k' ≡ with_looks (opened_again k s) (look s n ∷ k.looks))
    × (res ≡ (if nat_lt (slot_of k.slots s).generation k.shape.max_gen then Freed else Retired)))
    × (0 < (decoded n).pins → (k' ≡ with_looks k (look s n ∷ k.looks)) × (res ≡ Held (decoded n).pins))

-- the word of a slot under a lock: its pins are the one holder's copies there
abbrev pub word_of : KeeperState → ℕ → Word
word_of k s = record {
  generation = (slot_of k.slots s).generation;
  phase = (slot_of k.slots s).phase;
  pins = tally (is_of_slot s) k.held;
}

abbrev pub AnswersLocked : Verdict → KeeperState → Id → Result (Unit {0}) PinFault → KeeperState → Type 0
AnswersLocked Unborn k id res k' = (res ≡ Err fault.Unborn) × (k' ≡ k)
AnswersLocked Stale k id res k' = (res ≡ Err fault.Stale) × (k' ≡ k)
AnswersLocked PinsFull k id res k' = (res ≡ Err fault.PinsFull) × (k' ≡ k)
AnswersLocked Go k id res k' = (res ≡ Ok tt) × (k' ≡ with_held k (k.held ++ id ∷ []))

-- the answer of one try to pin under a lock, on the slot's present word
pub record TriesLocked (k : KeeperState) (id : Id) (res : Result (Unit {0}) PinFault) (k' : KeeperState) : Type 0 where
  pub no_slot : k.shape.slots ≤ id.slot → (res ≡ Err fault.NoSuchSlot) × (k' ≡ k)
  pub full : id.slot < k.shape.slots → 16 ≤ length k.held → (res ≡ Err fault.HeldFull) × (k' ≡ k)
  pub tried : id.slot < k.shape.slots → length k.held < 16
      → AnswersLocked (verdict_of k.shape.max_pins id (word_of k id.slot)) k id res k'

-- the answer of a reclaim under a lock: held exactly by the copies that are there
abbrev pub ReclaimsLocked : KeeperState → ℕ → Reclaim → KeeperState → Type 0
ReclaimsLocked k s Freed k' = (k' ≡ opened_again k s) × ((slot_of k.slots s).generation < k.shape.max_gen)
    × (tally (is_of_slot s) k.held ≡ 0)
ReclaimsLocked k s Retired k' = (k' ≡ opened_again k s) × (k.shape.max_gen ≤ (slot_of k.slots s).generation)
    × (tally (is_of_slot s) k.held ≡ 0)
ReclaimsLocked k s (Held n) k' = (k' ≡ k) × (0 < n) × (n ≡ tally (is_of_slot s) k.held) × (n ≤ k.shape.max_pins)

abbrev pub released : KeeperState → Id → KeeperState
released k id = with_held k (drop_last (same_id id) k.held)
