-- How many objects were made, slot by slot, and their numbers.
use Rattle.ob_store.proofs.Cited.{at_place, ◌≡◌, ℕ, ◌+◌, ◌<◌, ◌≤◌, List, length, Option, Some, None, arith, set, sum_by, Slot, slot_of, opening_slot, Object, made_in, AreBorn, All-from_get_or, sum_by-set, sum_by-le, made_by}
use Rattle.pin_core.specs.declared.word.Phase.{Phase}
use Rattle.ob_store.proofs.EndLaws.{some_set}

-- each generation is from 1 to the last
abbrev pub AreAged : ℕ → ℕ → List Slot → Type 0
AreAged n last slots = (k : ℕ) → k < n → (1 ≤ (slot_of slots k).generation) × ((slot_of slots k).generation ≤ last)

-- a slot that changes and had as many objects as before
pub made_set : (slots : List Slot) (i : ℕ) (y : Slot) → i < length slots → made_in y ≡ made_in (slot_of slots i)
    → sum_by made_in (set slots i y) ≡ sum_by made_in slots
made_set slots i y within same = search (arith, sum_by-set)

-- or one more
pub made_more : (slots : List Slot) (i : ℕ) (y : Slot) → i < length slots → made_in y ≡ made_in (slot_of slots i) + 1
    → sum_by made_in (set slots i y) ≡ sum_by made_in slots + 1
made_more slots i y within more = search (arith, sum_by-set)

made_few : (p : Phase) (generation : ℕ) → made_by p generation ≤ generation
made_few = search arith

-- a slot has no more objects than generations, so a count of 64 bits has room
pub made_bound : (slots : List Slot) (last : ℕ) → length slots ≤ 65536 → last ≤ 4294967295
    → AreAged (length slots) last slots → sum_by made_in slots ≤ 281474976645120
made_bound slots last few most aged =
    let all = All-from_get_or (λ (x : Slot). made_in x ≤ 4294967295) slots opening_slot
    (λ i lt. let x : Slot = slot_of slots i in let y = made_few x.phase x.generation in
    omega arith) in
    let sum = sum_by-le made_in 4294967295 slots all in
    omega arith

-- objects that stay, or leave
pub born_gone : (objects : List (Option Object)) (births k : ℕ) → AreBorn objects births
    → AreBorn (set objects k None) births
born_gone objects births k born = search (arith, some_set)

-- a new object, whose number is the count
pub born_added : (objects : List (Option Object)) (births k : ℕ) (n : Object) → n.birth ≡ births → k < length objects
    → AreBorn objects births → AreBorn (set objects k (Some n)) (births + 1)
born_added objects births k n first within born = grind (arith, at_place)
