-- A world that begins with given slots is safe.
use Rattle.std.proofs.Common.{◌≡◌, ◌≢◌, ℕ, ◌+◌, ◌<◌, ◌&&◌, Bool, true, false, List, [], ◌∷◌, length, replicate, zero, suc, refl, ◌∙◌, arith}
use Rattle.pin_core.specs.declared.id.Id.{Id}
use Rattle.pin_core.specs.declared.descr.Descr.{Descr}
use Rattle.pin_core.specs.declared.shape.Shape.{Shape}
use Rattle.pin_core.specs.declared.world.Slot.{Slot}
use Rattle.pin_core.specs.Holds.{tally, weight}
use Rattle.pin_core.specs.Worlds.{opening_slot, opening_of, slot_of, is_of, is_with}
use Rattle.pin_core.specs.Safety.{may_be_held, IsSafe}
use Rattle.pin_core.specs.Opened.{shown_from, opened_with, Opens}

abbrev Row : Type 0
Row = Id × Descr

-- a row of the slot n
abbrev row : ℕ → Slot → Row
row n x = (record { slot = n; generation = x.generation }, x.descr)

-- a test that only rows of the slot n pass
record IsAbout (n : ℕ) (p : Row → Bool) : Type 0 where
  other : (y : Row) → y.0.slot ≢ n → p y ≡ false

-- none of the slots from a later number on passes
none-before : (n : ℕ) (p : Row → Bool) → IsAbout n p → (i : ℕ) (xs : List Slot) → n < i → tally p (shown_from i xs) ≡ 0
none-before n p about i [] lt = refl
none-before n p about i (x ∷ xs) lt = search (arith, none-before n p about (suc i) xs (omega arith))

-- what passes of the slot n is its row, where it may be held
count-at : (n : ℕ) (p : Row → Bool) → IsAbout n p → (i j : ℕ) (xs : List Slot) → n ≡ i + j
    → tally p (shown_from i xs) ≡ weight (may_be_held (slot_of xs j).phase && p (row n (slot_of xs j)))
count-at n p about i j [] is = refl
count-at n p about i zero (x ∷ xs) is = search (arith, none-before)
count-at n p about i (suc j) (x ∷ xs) is = search (arith, count-at n p about (suc i) j xs (omega arith))

of-about : (id : Id) → IsAbout id.slot (is_of id)
of-about id = search arith

with-about : (id : Id) (d : Descr) → IsAbout id.slot (is_with id d)
with-about id d = search arith

-- a slot that may be held is one of the list
within-list : (xs : List Slot) (s : ℕ) → may_be_held (slot_of xs s).phase ≡ true → s < length xs
within-list [] s e = absurd cc
within-list (x ∷ xs) zero e = omega arith
within-list (x ∷ xs) (suc s) e = let ih = within-list xs s e in omega arith

given-one : (slots : List Slot) (id : Id) → tally (is_of id) (shown_from 0 slots)
    ≡ weight (may_be_held (slot_of slots id.slot).phase && is_of id (row id.slot (slot_of slots id.slot)))
given-one slots id = count-at id.slot (is_of id) (of-about id) 0 id.slot slots (omega arith)

-- the row of a slot that may be held is shown once
pub shown-once : (slots : List Slot) (s : ℕ) → may_be_held (slot_of slots s).phase ≡ true
    → tally (is_with (record { slot = s; generation = (slot_of slots s).generation }) (slot_of slots s).descr)
    (shown_from 0 slots) ≡ 1
shown-once slots s on = let x = slot_of slots s in let id = (row s x).0 in
    count-at s (is_with id x.descr) (with-about id x.descr) 0 s slots (omega arith)
    ∙ (search arith)

pub opened-safe : (k : Shape) (slots : List Slot) → Opens k slots → IsSafe (opened_with k slots)
opened-safe k slots opens = search (arith, within-list, given-one, shown-once)

-- slots of which nothing was asked
none-shown : (n s : ℕ) → shown_from s (replicate n opening_slot) ≡ []
none-shown zero s = refl
none-shown (suc n) s = none-shown n (suc s)

pub opening-is : (k : Shape) → opened_with k (replicate k.slots opening_slot) ≡ opening_of k
opening-is k = search (arith, none-shown)
