-- Each event on one slot keeps the world safe.
use Rattle.std.proofs.lemmas.Bool.Decides.{nat_tests}
use Rattle.ob_codec.proofs.AtPlace.{at_place}
use Rattle.std.proofs.Common.{◌≡◌, ◌≢◌, ℕ, ◌+◌, ◌<◌, ◌≤◌, nat_lt, Bool, true, false, cond, List, set, Option, None, refl, arith}
use Rattle.pin_core.specs.declared.id.Id.{Id}
use Rattle.pin_core.specs.declared.descr.Descr.{Descr}
use Rattle.pin_core.specs.declared.word.Phase.{Phase}
use Rattle.pin_core.specs.declared.word.Phase.TheVariants.{Free, Live, Retired, Closing}
use Rattle.pin_core.specs.declared.world.Slot.{Slot}
use Rattle.pin_core.specs.declared.event.Event.TheVariants.{StoreDescr, Publish, CloseSlot}
use Rattle.pin_core.specs.declared.event.Reason.{Reason}
use Rattle.pin_core.specs.Descrs.{same_descr}
use Rattle.pin_core.specs.Holds.{tally, same_id}
use Rattle.pin_core.specs.Worlds.{WorldState, at, pins, copies, is_of, is_with, given, given_as}
use Rattle.pin_core.specs.Events.{is_phase, check, after, with_slot, in_phase}
use Rattle.pin_core.specs.Safety.{may_be_held, IsSafe}
use Rattle.pin_core.proofs.Counts.{count-snoc, count-le}

pub passed : (b : Bool) (r : Reason) (next : Option Reason) → check b r next ≡ None → (b ≡ true) × (next ≡ None)
passed true r next e = (refl, e)
passed false r next e = cc

pub phase_of_test : (p q : Phase) → is_phase p q ≡ true → p ≡ q
phase_of_test p q e = grind arith

pub same_of_test : (a b : Id) → same_id a b ≡ true → (a.slot ≡ b.slot) × (a.generation ≡ b.generation)
same_of_test a b e = grind arith

pub same_id-same : (id : Id) → same_id id id ≡ true
same_id-same id = grind arith

pub same_of_descr : (a b : Descr) → same_descr a b ≡ true → a ≡ b
same_of_descr a b e = grind arith

pub copies-le-pins : (w : WorldState) (r : ℕ) (id : Id) → copies w r id ≤ pins w id.slot
copies-le-pins w r id = search (arith, count-le)

pub given_as-le : (w : WorldState) (id : Id) (d : Descr) → given_as w id d ≤ given w id
given_as-le w id d = search (arith, count-le)

-- the slot s becomes x, and the published list ps
abbrev pub moved : WorldState → ℕ → Slot → List (Id × Descr) → WorldState
moved w s x ps = record w { slots = set w.slots s x; published = ps }

-- what a change of the slot s owes
record Move (w : WorldState) (s : ℕ) (x : Slot) (ps : List (Id × Descr)) : Type 0 where
  later : (at w s).generation ≤ x.generation
  held : (r : ℕ) (g : ℕ) → 0 < copies w r record { slot = s; generation = g }
      → (x.generation ≡ g) × (may_be_held x.phase ≡ true)
  bounded : x.generation ≤ w.shape.max_gen
  last : x.phase ≡ Retired → x.generation ≡ w.shape.max_gen
  shown : may_be_held x.phase ≡ true → tally (is_with record { slot = s; generation = x.generation } x.descr) ps ≡ 1
  unshown : x.phase ≡ Free → tally (is_of record { slot = s; generation = x.generation }) ps ≡ 0
  others : (t g : ℕ) (d : Descr) → t ≢ s → (tally (is_of record { slot = t; generation = g }) ps
      ≡ given w record { slot = t; generation = g })
      × (tally (is_with record { slot = t; generation = g } d) ps ≡ given_as w record { slot = t; generation = g } d)
  once : (id : Id) → tally (is_of id) ps ≤ 1
  below : (g : ℕ) → 0 < tally (is_of record { slot = s; generation = g }) ps → g ≤ x.generation

pub store-safe : (w : WorldState) (s : ℕ) (d : Descr) → IsSafe w → s < w.shape.slots → (at w s).phase ≡ Free
    → IsSafe (after w (StoreDescr s d))
store-safe w s d safe inside free = grind (arith, at_place)

pub close-safe : (w : WorldState) (s : ℕ) → IsSafe w → s < w.shape.slots → (at w s).phase ≡ Live
    → IsSafe (after w (CloseSlot s))
close-safe w s safe inside live = grind (arith, at_place)

pub reclaim-safe : (w : WorldState) (s : ℕ) → IsSafe w → s < w.shape.slots → (at w s).phase ≡ Closing → pins w s ≡ 0
    → (b : Bool) → nat_lt (at w s).generation w.shape.max_gen ≡ b
    → IsSafe (with_slot w s (cond b (record (at w s) { generation = (at w s).generation + 1; phase = Free })
    (in_phase (at w s) Retired)))
reclaim-safe w s safe inside closing none true e = grind (arith, at_place, copies-le-pins)
reclaim-safe w s safe inside closing none false e = grind (arith, at_place, copies-le-pins)

pub publish-safe : (w : WorldState) (s : ℕ) → IsSafe w → s < w.shape.slots → (at w s).phase ≡ Free
    → IsSafe (after w (Publish s))
publish-safe w s safe inside free = grind (arith, nat_tests, at_place, given_as-le, count-snoc)
