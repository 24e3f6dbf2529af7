-- Which events are possible in a world, and what each changes: the table of events in docs/BEHAVIOUR.md, a line each.
use Rattle.std.specs.Prelude.{◌≡◌, ℕ, ◌+◌, ◌-◌, ◌≤◌, ◌==◌, ◌&&◌, nat_lt, Bool, true, false, if◌then◌else◌, List, [], ◌∷◌, ◌++◌, slice_set, slice_get, take, Option, Some, None}
use Rattle.pin_core.specs.declared.word.Word.{Word}
use Rattle.pin_core.specs.declared.descr.Descr.{Descr}
use Rattle.pin_core.specs.declared.id.Id.{Id}
use Rattle.pin_core.specs.declared.word.Phase.{Phase}
use Rattle.pin_core.specs.declared.word.Phase.TheVariants.{Free, Live, Retired, Closing}
use Rattle.pin_core.specs.declared.world.Slot.{Slot}
use Rattle.pin_core.specs.declared.holders.Hold.{Hold}
use Rattle.pin_core.specs.declared.event.Event.{Event}
use Rattle.pin_core.specs.declared.event.Event.TheVariants.{Load, Pin, Release, ReadDescr, StoreDescr, Publish, CloseSlot, Reclaim}
use Rattle.pin_core.specs.declared.event.Reason.{Reason}
use Rattle.pin_core.specs.declared.event.Reason.TheVariants.{NoSlot, WrongPhase, WordDiffers, PinsFull, NotHeld, Pinned, DescrDiffers}
use Rattle.pin_core.specs.Words.{code_of}
use Rattle.pin_core.specs.Descrs.{same_descr}
use Rattle.pin_core.specs.Holds.{with_hold, drop_first, is_hold}
use Rattle.pin_core.specs.Worlds.{WorldState, at, id_at, pins, copies, last_copy, next_copy, word_at}

abbrev pub is_phase : Phase → Phase → Bool
is_phase p q = code_of p == code_of q

abbrev pub same_word : Word → Word → Bool
same_word a b = (a.generation == b.generation) && (is_phase a.phase b.phase && (a.pins == b.pins))

-- the reason, unless the test is met and no later test has one
abbrev pub check : Bool → Reason → Option Reason → Option Reason
check true r later = later
check false r later = Some r

-- why a slot isn't in the phase, why a reader holds no copy, and why a slot can't be pinned at the word e
abbrev pub phase_refusal : WorldState → ℕ → Phase → Option Reason
phase_refusal w s p = check (nat_lt s w.shape.slots) NoSlot (check (is_phase (at w s).phase p) WrongPhase None)

abbrev pub held_refusal : WorldState → ℕ → Id → Option Reason
held_refusal w r id = check (nat_lt id.slot w.shape.slots) NoSlot (check (nat_lt 0 (copies w r id)) NotHeld None)

abbrev pub pin_refusal : WorldState → ℕ → Word → Option Reason
pin_refusal w s e =
    check (nat_lt s w.shape.slots) NoSlot (check (same_word (word_at w s) e) WordDiffers
    (check (is_phase (at w s).phase Live) WrongPhase (check (nat_lt (pins w s) w.shape.max_pins) PinsFull None)))

-- why an event isn't possible: the tests in their order, and none where it is
abbrev pub refusal : WorldState → Event → Option Reason
refusal w (Load r s) = check (nat_lt s w.shape.slots) NoSlot None
refusal w (Pin r s e) = pin_refusal w s e
refusal w (Release r id) = held_refusal w r id
refusal w (ReadDescr r id d) =
    check (nat_lt id.slot w.shape.slots) NoSlot (check (nat_lt 0 (copies w r id)) NotHeld
    (check (same_descr (at w id.slot).descr d) DescrDiffers None))
refusal w (StoreDescr s d) = phase_refusal w s Free
refusal w (Publish s) = phase_refusal w s Free
refusal w (CloseSlot s) = phase_refusal w s Live
refusal w (Reclaim s) = check (nat_lt s w.shape.slots) NoSlot
    (check (is_phase (at w s).phase Closing) WrongPhase (check (pins w s == 0) Pinned None))

abbrev pub with_slot : WorldState → ℕ → Slot → WorldState
with_slot w s x = record w { slots = slice_set w.slots s x }

abbrev pub with_holders : WorldState → List Hold → WorldState
with_holders w hs = record w { holders = hs }

-- the reader holds one more copy of the slot's Id; it lets the copy of highest number go
abbrev pub held_more : WorldState → ℕ → ℕ → WorldState
held_more w r s = with_holders w (with_hold (next_copy w r s) w.holders)

abbrev pub held_less : WorldState → ℕ → Id → WorldState
held_less w r id = with_holders w (drop_first (is_hold (last_copy w r id)) w.holders)

abbrev pub in_phase : Slot → Phase → Slot
in_phase x p = record x { phase = p }

abbrev pub with_descr : Slot → Descr → Slot
with_descr x d = record x { descr = d }

-- free at the next generation, or retired at the last
abbrev pub reclaimed : ℕ → Slot → Slot
reclaimed max_gen x = if nat_lt x.generation max_gen then record x { generation = x.generation + 1; phase = Free }
    else in_phase x Retired

-- the world after an event that is possible
abbrev pub after : WorldState → Event → WorldState
after w (Load r s) = w
after w (Pin r s e) = held_more w r s
after w (Release r id) = held_less w r id
after w (ReadDescr r id d) = w
after w (StoreDescr s d) = with_slot w s (with_descr (at w s) d)
after w (Publish s) = record w {
  slots = slice_set w.slots s (in_phase (at w s) Live);
  published = w.published ++ (id_at w s, (at w s).descr) ∷ [];
}
after w (CloseSlot s) = with_slot w s (in_phase (at w s) Closing)
after w (Reclaim s) = with_slot w s (reclaimed w.shape.max_gen (at w s))

-- the event takes the first world to the second
abbrev pub Transition : WorldState → Event → WorldState → Type 0
Transition w e w' = (refusal w e ≡ None) × (w' ≡ after w e)

-- each event of the list is possible where it stands
abbrev pub IsSchedule : WorldState → List Event → Type 0
IsSchedule w [] = Unit {0}
IsSchedule w (e ∷ es) = (refusal w e ≡ None) × IsSchedule (after w e) es

abbrev pub after_all : WorldState → List Event → WorldState
after_all w [] = w
after_all w (e ∷ es) = after_all (after w e) es

-- event n, counted from 1, is the first that isn't possible, for the reason r
abbrev pub IsFirstRefused : WorldState → List Event → ℕ → Reason → Type 0
IsFirstRefused w es n r = (e : Event) × (1 ≤ n) × IsSchedule w (take (n - 1) es) × (slice_get es (n - 1) ≡ Some e)
    × (refusal (after_all w (take (n - 1) es)) e ≡ Some r)
