-- Each event that is possible keeps the world safe.
use Rattle.std.proofs.lemmas.Bool.Decides.{nat_tests}
use Rattle.ob_codec.proofs.AtPlace.{at_place}
use Rattle.std.proofs.Common.{◌-◌, take, slice_get, ◌≡◌, ℕ, ◌+◌, ◌<◌, ◌≤◌, ◌&&◌, nat_lt, nat_le, false, List, [], ◌∷◌, ◌++◌, length, get_or, replicate, zero, suc, Some, None, refl, arith}
use Rattle.std.proofs.lemmas.Bool.{eqb-true, ltb-true}
use Rattle.std.proofs.lemmas.Option.{slice_get-get_or}
use Rattle.std.proofs.lemmas.Grind.{common_steps}
use Rattle.std.proofs.lemmas.List.{length-replicate, take_more}
use Rattle.pin_core.specs.declared.id.Id.{Id}
use Rattle.pin_core.specs.declared.descr.Descr.{Descr}
use Rattle.pin_core.specs.declared.word.Phase.TheVariants.{Free, Live, Closing}
use Rattle.pin_core.specs.declared.shape.Shape.{Shape}
use Rattle.pin_core.specs.declared.holders.Hold.{Hold}
use Rattle.pin_core.specs.declared.event.Event.{Event}
use Rattle.pin_core.specs.declared.event.Event.TheVariants.{Load, Pin, Release, ReadDescr, StoreDescr, Publish, CloseSlot, Reclaim}
use Rattle.pin_core.specs.declared.event.Reason.{Reason}
use Rattle.pin_core.specs.Holds.{tally, weight, is_at_slot, is_copy}
use Rattle.pin_core.specs.Worlds.{WorldState, opening_slot, opening_of, at, pins, copies, times, word_at, given_as}
use Rattle.pin_core.specs.Events.{refusal, after, after_all, IsSchedule, IsFirstRefused}
use Rattle.pin_core.specs.Safety.{may_be_held, IsSafe, age, reached, AreEvents, StaysGiven}
use Rattle.pin_core.proofs.Counts.{count-le}
use Rattle.pin_core.proofs.Moves.{passed, phase_of_test, copies-le-pins, reclaim-safe, publish-safe}
use Rattle.pin_core.proofs.Holding.{pin-safe, release-safe}

pub safe_kept : (w : WorldState) (e : Event) → IsSafe w → refusal w e ≡ None → IsSafe (after w e)
safe_kept w (Load r s) safe can = safe
safe_kept w (Pin r s e) safe can = let a = passed _ _ _ can in let b = passed _ _ _ a.1 in let c = passed _ _ _ b.1 in
    let d = passed _ _ _ c.1 in
    pin-safe w r s e safe (ltb-true s w.shape.slots a.0) (phase_of_test (at w s).phase Live c.0)
    (ltb-true (pins w s) w.shape.max_pins d.0)
safe_kept w (Release r id) safe can = let a = passed _ _ _ can in let b = passed _ _ _ a.1 in
    release-safe w r id safe (ltb-true 0 (copies w r id) b.0)
safe_kept w (ReadDescr r id d) safe can = safe
safe_kept w (StoreDescr s d) safe can = grind (arith, at_place)
safe_kept w (Publish s) safe can = grind (arith, at_place, publish-safe)
safe_kept w (CloseSlot s) safe can = grind (arith, at_place)
safe_kept w (Reclaim s) safe can = let a = passed _ _ _ can in let b = passed _ _ _ a.1 in let c = passed _ _ _ b.1 in
    reclaim-safe w s safe (ltb-true s w.shape.slots a.0) (phase_of_test (at w s).phase Closing b.0)
    (eqb-true (pins w s) 0 c.0) (nat_lt (at w s).generation w.shape.max_gen) refl

all_kept : (w : WorldState) (es : List Event) → IsSafe w → IsSchedule w es → IsSafe (after_all w es)
all_kept w [] safe can = safe
all_kept w (e ∷ es) safe can = all_kept (after w e) es (safe_kept w e safe can.0) can.1

pub opening_at : (n s : ℕ) → get_or (replicate n opening_slot) s opening_slot ≡ opening_slot
opening_at zero s = refl
opening_at (suc n) zero = refl
opening_at (suc n) (suc s) = opening_at n s

pub none_numbered : (k : ℕ) → 0 ≡ weight (nat_lt 0 k && nat_le k 0)
none_numbered k = grind arith

pub opening-safe : (k : Shape) → 1 ≤ k.max_gen → IsSafe (opening_of k)
opening-safe k h = search (arith, opening_at, length-replicate)

pub reached-safe : (k : Shape) (es : List Event) → AreEvents k es → IsSafe (reached k es)
reached-safe k es h = search (arith, all_kept, opening-safe)

pub reclaim_needs : (w : WorldState) (s : ℕ) → refusal w (Reclaim s) ≡ None
    → (s < w.shape.slots) × ((at w s).phase ≡ Closing) × (pins w s ≡ 0)
reclaim_needs w s can = search arith

pub times-le-copies : (w : WorldState) (t : Hold) → times w t ≤ copies w t.reader t.id
times-le-copies w t = search (arith, count-le)

pub kept_while_held : (w : WorldState) → IsSafe w → (t : Hold) → 0 < times w t → StaysGiven w t.id.slot
kept_while_held w safe t some = search (arith, times-le-copies, copies-le-pins)

-- what counts at a slot is some reader's copy
pub some_hold : (s : ℕ) (hs : List Hold) → 0 < tally (is_at_slot s) hs
    → (h : Hold) × (h.id.slot ≡ s) × (0 < tally (is_copy h.reader h.id) hs)
some_hold s [] some = absurd (omega arith)
some_hold s (x ∷ xs) some = search (arith, some_hold s xs)

pub nobody_at : (w : WorldState) → IsSafe w → (s : ℕ) → s < w.shape.slots → may_be_held (at w s).phase ≡ false
    → pins w s ≡ 0
nobody_at w safe s inside off = search (arith, some_hold)

pub publish_alone : (w : WorldState) → IsSafe w → (s : ℕ) → refusal w (Publish s) ≡ None → pins w s ≡ 0
publish_alone w safe s can = search (arith, nobody_at)

pub read_shown : (w : WorldState) → IsSafe w → (r : ℕ) (id : Id) (d : Descr) → refusal w (ReadDescr r id d) ≡ None
    → given_as w id d ≡ 1
read_shown w safe r id d can = grind (arith, nat_tests)

pub onward : (w : WorldState) (e : Event) (s : ℕ) → refusal w e ≡ None → age (at w s) ≤ age (at (after w e) s)
onward w e s can = grind (arith, common_steps)

pub may_pin : (w : WorldState) (r s : ℕ) → s < w.shape.slots → (at w s).phase ≡ Live → pins w s < w.shape.max_pins
    → refusal w (Pin r s (word_at w s)) ≡ None
may_pin w r s a b c = search arith

pub may_load : (w : WorldState) (r s : ℕ) → s < w.shape.slots → refusal w (Load r s) ≡ None
may_load w r s a = search arith

pub may_read : (w : WorldState) (r : ℕ) (id : Id) → id.slot < w.shape.slots → 0 < copies w r id
    → refusal w (ReadDescr r id (at w id.slot).descr) ≡ None
may_read w r id a b = search arith

pub may_release : (w : WorldState) (r : ℕ) (id : Id) → id.slot < w.shape.slots → 0 < copies w r id
    → refusal w (Release r id) ≡ None
may_release w r id a b = search arith

pub may_publish : (w : WorldState) (s : ℕ) → s < w.shape.slots → (at w s).phase ≡ Free → refusal w (Publish s) ≡ None
may_publish w s a b = search arith

pub may_close : (w : WorldState) (s : ℕ) → s < w.shape.slots → (at w s).phase ≡ Live → refusal w (CloseSlot s) ≡ None
may_close w s a b = search arith

pub may_reclaim : (w : WorldState) (s : ℕ) → s < w.shape.slots → (at w s).phase ≡ Closing → pins w s ≡ 0
    → refusal w (Reclaim s) ≡ None
may_reclaim w s a b c = search arith

pub may_store : (w : WorldState) (s : ℕ) (d : Descr) → s < w.shape.slots → (at w s).phase ≡ Free
    → refusal w (StoreDescr s d) ≡ None
may_store w s d a b = search arith

pub schedule-snoc : (w : WorldState) (es : List Event) (e : Event) → IsSchedule w es → refusal (after_all w es) e ≡ None
    → IsSchedule w (es ++ e ∷ [])
schedule-snoc w [] e h can = (can, tt)
schedule-snoc w (x ∷ xs) e h can = (h.0, schedule-snoc (after w x) xs e h.1 can)

pub after_all-snoc : (w : WorldState) (es : List Event) (e : Event)
    → after_all w (es ++ e ∷ []) ≡ after (after_all w es) e
after_all-snoc w [] e = refl
after_all-snoc w (x ∷ xs) e = after_all-snoc (after w x) xs e

-- one event more
pub one-more : (w v v' : WorldState) (es : List Event) (i : ℕ) (d : Event) → i < length es
    → IsSchedule w (take i es) × (v ≡ after_all w (take i es)) → refusal v (get_or es i d) ≡ None
    → v' ≡ after v (get_or es i d)
    → IsSchedule w (take (i + 1) es) × (v' ≡ after_all w (take (i + 1) es))
one-more w v v' es i d inside h can now = let e = get_or es i d in let more : take (i + 1) es ≡ take i es ++ e ∷ [] =
    take_more es i d inside in search (arith, schedule-snoc, after_all-snoc)

pub first-refused : (w v : WorldState) (es : List Event) (i : ℕ) (d : Event) (r : Reason) → i < length es
    → IsSchedule w (take i es) × (v ≡ after_all w (take i es)) → refusal v (get_or es i d) ≡ Some r
    → IsFirstRefused w es (i + 1) r
first-refused w v es i d r inside h no-way = let back : i ≡ i + 1 - 1 = omega arith in search (arith, slice_get-get_or)

pub as-refused : (w : WorldState) (es : List Event) (a n : ℕ) (p r : Reason) → a ≡ n → p ≡ r → IsFirstRefused w es a p
    → IsFirstRefused w es n r
as-refused w es a n p r e f h = search arith

-- the event at place i is the first that isn't possible
abbrev Stops : WorldState → List Event → ℕ → Reason → Type 0
Stops w es i r = (e : Event) × IsSchedule w (take i es) × (slice_get es i ≡ Some e)
    × (refusal (after_all w (take i es)) e ≡ Some r)

stops-once : (w : WorldState) (es : List Event) (i j : ℕ) (r q : Reason) → Stops w es i r → Stops w es j q
    → (i ≡ j) × (r ≡ q)
stops-once w [] i j r q a b = let e = a.2 in cc
stops-once w (x ∷ xs) zero zero r q a b = search arith
stops-once w (x ∷ xs) zero (suc j) r q a b = search arith
stops-once w (x ∷ xs) (suc i) zero r q a b = search arith
stops-once w (x ∷ xs) (suc i) (suc j) r q a b = search (arith, stops-once (after w x) xs i j r q (a.0, a.1.1, a.2, a.3) (b.0, b.1.1, b.2, b.3))

never-stops : (w : WorldState) (es : List Event) (i : ℕ) (r : Reason) → IsSchedule w es → Stops w es i r → ⊥
never-stops w [] i r h a = let e = a.2 in cc
never-stops w (x ∷ xs) zero r h a = search arith
never-stops w (x ∷ xs) (suc i) r h a = never-stops (after w x) xs i r h.1 (a.0, a.1.1, a.2, a.3)

pub refused-once : (w : WorldState) (es : List Event) (n m : ℕ) (r q : Reason) → IsFirstRefused w es n r
    → IsFirstRefused w es m q → (n ≡ m) × (r ≡ q)
refused-once w es n m r q a b = let same = stops-once w es (n - 1) (m - 1) r q (a.0, a.2, a.3, a.4) (b.0, b.2, b.3, b.4)
    in ((let one = a.1 in let one' = b.1 in let p = same.0 in omega arith), same.1)

pub never-refused : (w : WorldState) (es : List Event) (n : ℕ) (r : Reason) → IsSchedule w es → IsFirstRefused w es n r
    → ⊥
never-refused w es n r h a = never-stops w es (n - 1) r h (a.0, a.2, a.3, a.4)
