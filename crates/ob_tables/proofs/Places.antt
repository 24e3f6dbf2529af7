-- Laws of one table: its least free place, what an entry there does, and the places that are taken.
use Rattle.std.proofs.lemmas.Bool.Decides.{nat_tests}
use Rattle.std.proofs.lemmas.Grind.{common_steps, elements}
use Rattle.std.proofs.Common.{◌≡◌, ℕ, ◌+◌, ◌-◌, ◌<◌, ◌≤◌, List, [], ◌∷◌, ◌++◌, length, map, replicate, Option, Some, None, refl, ◌∙◌, arith, get_or, set, Bool, true, false}
use Rattle.std.specs.Prelude.{is_some, IsSome, slice_get}
use Rattle.std.proofs.lemmas.List.{map-set, length-map, length-set, set-get_or, set_at}
use Rattle.std.proofs.Math.Seq.{map-set_same}
use Rattle.least.specs.Taken.{least_free, taken_count}
use Rattle.least.proofs.CountLemmas.{counted_map}
use Rattle.least.proofs.TakenLemmas.{slice_get_least_free}
use Rattle.ob_tables.specs.declared.entry.Entry.{Entry}
use Rattle.ob_tables.specs.Counts.{entries_in}
use Rattle.ob_tables.specs.Table.{at, place_of, entry_at, free_place, with_entry, TableInvariant}
use Rattle.ob_tables.proofs.Counting.{found_place}

-- the least number that is not taken is the least free place
pub least_free_places : {A : Type 0} (t : List (Option A)) → least_free (map is_some t) ≡ free_place t
least_free_places [] = refl
least_free_places (x ∷ t) = grind (arith, least_free_places t)

-- a table that is free at its end alone gets the entry there
pub with_entry_end : (t : List (Option Entry)) (e : Entry) → free_place t ≡ length t → with_entry t e ≡ t ++ Some e ∷ []
with_entry_end [] e h = refl
with_entry_end (x ∷ t) e h = grind (arith, with_entry_end t e)

-- otherwise the entry is written at the free place
pub with_entry_at : (t : List (Option Entry)) (e : Entry) → free_place t < length t
    → with_entry t e ≡ set t (free_place t) (Some e)
with_entry_at [] e h = absurd (omega arith)
with_entry_at (x ∷ t) e h = grind (arith, with_entry_at t e)

-- the least number of a table's set is its least free place, and is free
pub least_place : (taken : List Bool) (t : List (Option Entry)) → TableInvariant taken t
    → least_free taken ≡ free_place t
least_place taken t kept = search (arith, least_free_places)

-- as many numbers are taken as there are entries
pub entries_taken : (taken : List Bool) (t : List (Option Entry)) → TableInvariant taken t
    → taken_count taken ≡ entries_in t
entries_taken taken t kept = search (arith, counted_map)

pub place_is_free : (taken : List Bool) (t : List (Option Entry)) (k : ℕ) → TableInvariant taken t
    → k ≡ least_free taken
    → k < length t → slice_get taken k ≡ Some false
place_is_free taken t k kept is lt = search (arith, length-map, slice_get_least_free)

pub placed_at : (taken : List Bool) (t : List (Option Entry)) (k : ℕ) (e : Entry) → TableInvariant taken t
    → k ≡ least_free taken → k < length t → set t k (Some e) ≡ with_entry t e
placed_at taken t k e kept is lt = search (arith, with_entry_at, least_place)

pub placed_last : (taken : List Bool) (t : List (Option Entry)) (k : ℕ) (e : Entry) → TableInvariant taken t
    → k ≡ least_free taken → length t ≤ k → k ≤ length taken → t ++ Some e ∷ [] ≡ with_entry t e
placed_last taken t k e kept is past bound = search (arith, with_entry_end, least_place, length-map)

-- a place changes, and the set with it
pub kept_set : (taken taken' : List Bool) (t : List (Option Entry)) (k : ℕ) (x : Option Entry) → TableInvariant taken t
    → taken' ≡ set taken k (is_some x) → TableInvariant taken' (set t k x)
kept_set taken taken' t k x kept is = search (arith, length-set, map-set)

-- an entry changes, and the set stays
pub kept_changed : (taken : List Bool) (t : List (Option Entry)) (k : ℕ) (x : Option Entry) → TableInvariant taken t
    → is_some x ≡ is_some (get_or t k None) → TableInvariant taken (set t k x)
kept_changed taken t k x kept is = search (arith, length-set, map-set_same)

-- a value with an entry has it at its place
pub present : (t : List (Option Entry)) (value : ℕ) → IsSome (entry_at t value) → is_some (at t (place_of value)) ≡ true
present t value some = search arith

-- the number of a place with an entry is taken
pub held_number : (taken : List Bool) (t : List (Option Entry)) (value : ℕ) (e : Entry) → TableInvariant taken t
    → entry_at t value ≡ Some e → slice_get taken (place_of value) ≡ Some true
held_number taken t value e kept is = grind (arith, elements, found_place)

-- a number that stays as it is
pub stays_taken : (taken : List Bool) (k : ℕ) → slice_get taken k ≡ Some true → taken ≡ set taken k true
stays_taken taken k is = grind (arith, elements, set-get_or)

-- places that come one by one, while the numbers of all that are still to come are taken
first_past : (xs : List Bool) (i : ℕ) (y : Bool) (ys : List Bool) → length xs ≡ i → slice_get (xs ++ y ∷ ys) i ≡ Some y
first_past xs i y ys long = grind (arith, nat_tests, common_steps, elements)

numbers_left : (i len : ℕ) → i < len → replicate (len - i) true ≡ true ∷ replicate (len - (i + 1)) true
numbers_left i len lt = search arith

length-is_some : (t : List (Option Entry)) (i : ℕ) → length t ≡ i → length (map is_some t) ≡ i
length-is_some t i long = length-map t is_some ∙ long

pub next_taken : (taken : List Bool) (t : List (Option Entry)) (i len : ℕ) → i < len → length t ≡ i
    → taken ≡ map is_some t ++ replicate (len - i) true → slice_get taken i ≡ Some true
next_taken taken t i len lt long is = search (arith, first_past, length-is_some)

pub one_more_place : (taken taken' : List Bool) (t : List (Option Entry)) (x : Option Entry) (i len : ℕ) → i < len
    → length t ≡ i → taken ≡ map is_some t ++ replicate (len - i) true
    → taken' ≡ set taken i (is_some x) → taken' ≡ map is_some (t ++ x ∷ []) ++ replicate (len - (i + 1)) true
one_more_place taken taken' t x i len lt long is is' = grind (arith, common_steps, numbers_left, set_at)
