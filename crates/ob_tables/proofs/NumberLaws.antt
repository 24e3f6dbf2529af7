-- The set of live numbers, beside the places.
use Rattle.ob_codec.proofs.AtPlace.{at_place}
use Rattle.std.proofs.Common.{◌≡◌, ℕ, suc, ◌+◌, ◌-◌, ◌<◌, ◌≤◌, Bool, true, false, List, [], ◌∷◌, length, Option, Some, None, refl, ap, ◌∙◌, arith, cond, get_or, replicate, set}
use Rattle.std.specs.Prelude.{count_by, is_none, is_some, slice_get}
use Rattle.std.specs.List.{position_or_len}
use Rattle.std.proofs.lemmas.Bool.Decides.{nat_tests}
use Rattle.std.proofs.lemmas.List.{get_or-replicate, get_or_past, length-replicate}
use Rattle.std.proofs.lemmas.List.Sums.{count_by-le-length, sum_by-cons}
use Rattle.least.specs.Taken.{is_taken, least_free, taken_count}
use Rattle.least.proofs.CountLemmas.{none_first, one_first}
use Rattle.ob_tables.specs.declared.numbers.Numbers.{Numbers}
use Rattle.ob_tables.specs.Numbers.{AreNumbers}
use Rattle.ob_tables.specs.Processes.{IsFromOne, next_number}

same_least : (taken : List Bool) (numbers : List (Option ℕ))
    → ((k : ℕ) → is_taken taken k ≡ is_some (get_or numbers k None)) → least_free taken ≡ position_or_len is_none numbers
same_least [] [] same = refl
same_least [] (x ∷ numbers) same = grind (arith, same 0)
same_least (x ∷ taken) [] same = grind (arith, same 0)
same_least (x ∷ taken) (y ∷ numbers) same = grind (arith, same 0, same_least taken numbers (λ k. same (suc k)))

-- the least free one is the least that is gone
pub least_is : (taken : List Bool) (numbers : List (Option ℕ)) → 0 < length numbers
    → ((k : ℕ) → is_taken taken k ≡ is_some (get_or numbers (k + 1) None))
    → least_free taken + 1 ≡ next_number true numbers
least_is taken numbers some same = grind (arith, same_least)

-- a number that is taken stands in the set
pub stands_taken : (taken : List Bool) (k : ℕ) → is_taken taken k ≡ true → slice_get taken k ≡ Some true
stands_taken [] k is = absurd (cc is)
stands_taken (x ∷ taken) k is = grind (arith, nat_tests, stands_taken taken)

pub live_taken : (m : Numbers) → AreNumbers m → (n : ℕ) → is_some (get_or m.places.items n None) ≡ true
    → slice_get m.taken (n - 1) ≡ Some true
live_taken m are n some = grind (arith, stands_taken)

-- the set while it is made: each place from one on still has its number taken
pub record IsReadTo (places : List (Option ℕ)) (taken : List Bool) (place : ℕ) : Type 0 where
  pub long : length taken + 1 ≡ length places
  pub before : (k : ℕ) → k + 1 < place → is_taken taken k ≡ is_some (get_or places (k + 1) None)
  pub behind : (k : ℕ) → place ≤ k + 1 → k + 1 < length places → is_taken taken k ≡ true

pub read_first : (places : List (Option ℕ)) (n : ℕ) → n + 1 ≡ length places → IsReadTo places (replicate n true) 1
read_first places n long = search (arith, length-replicate, get_or-replicate)

pub read_next : (places : List (Option ℕ)) (taken taken' : List Bool) (place : ℕ) → 0 < place → place < length places
    → taken' ≡ cond (is_some (get_or places place None)) taken (set taken (place - 1) false) → IsReadTo places taken place
    → IsReadTo places taken' (place + 1)
read_next places taken taken' place above within is so_far = grind (arith, nat_tests, at_place)

pub read_all : (places : List (Option ℕ)) (taken : List Bool) → IsReadTo places taken (length places) → (k : ℕ)
    → is_taken taken k ≡ is_some (get_or places (k + 1) None)
read_all places taken so_far k = grind (arith, nat_tests, get_or_past)

-- as many numbers are taken as live ones stand behind place 0
none_ahead : (numbers : List (Option ℕ)) → count_by is_some (None ∷ numbers) ≡ count_by is_some numbers
none_ahead numbers = search (arith, sum_by-cons)

some_ahead : (x : ℕ) (numbers : List (Option ℕ)) → count_by is_some (Some x ∷ numbers) ≡ suc (count_by is_some numbers)
some_ahead x numbers = search (arith, sum_by-cons)

same_count : (taken : List Bool) (numbers : List (Option ℕ))
    → ((k : ℕ) → is_taken taken k ≡ is_some (get_or numbers k None)) → taken_count taken ≡ count_by is_some numbers
same_count [] [] same = refl
same_count [] (None ∷ numbers) same = omega (arith, none_ahead numbers, same_count [] numbers (λ k. same (suc k)))
same_count [] (Some x ∷ numbers) same = absurd (let h = same 0 in cc h)
same_count (false ∷ taken) [] same = omega (arith, none_first taken, same_count taken [] (λ k. same (suc k)))
same_count (true ∷ taken) [] same = absurd (let h = same 0 in cc h)
same_count (false ∷ taken) (None ∷ numbers) same =
    omega (arith, none_first taken, none_ahead numbers, same_count taken numbers (λ k. same (suc k)))
same_count (false ∷ taken) (Some x ∷ numbers) same = absurd (let h = same 0 in cc h)
same_count (true ∷ taken) (None ∷ numbers) same = absurd (let h = same 0 in cc h)
same_count (true ∷ taken) (Some x ∷ numbers) same =
    omega (arith, one_first taken, some_ahead x numbers, same_count taken numbers (λ k. same (suc k)))

counted_behind : (taken : List Bool) (numbers : List (Option ℕ)) → IsFromOne numbers
    → ((k : ℕ) → is_taken taken k ≡ is_some (get_or numbers (k + 1) None))
    → taken_count taken ≡ count_by is_some numbers
counted_behind taken [] one same = absurd (omega (arith, one.not_empty))
counted_behind taken (Some x ∷ numbers) one same = absurd (let h = one.none in cc h)
counted_behind taken (None ∷ numbers) one same = omega (
  arith,
  none_ahead numbers,
  same_count taken numbers
      (λ k. same k ∙ ap (λ n. is_some (get_or (None ∷ numbers) n None)) (next k)),
)
  where
    next : (k : ℕ) → k + 1 ≡ suc k
    next k = omega arith

few_behind : (numbers : List (Option ℕ)) → IsFromOne numbers → count_by is_some numbers < length numbers
few_behind [] one = absurd (omega (arith, one.not_empty))
few_behind (x ∷ numbers) one = grind (arith, none_ahead, count_by-le-length is_some numbers)

pub live_counted : (m : Numbers) → AreNumbers m → taken_count m.taken ≡ count_by is_some m.places.items
live_counted m are = search (arith, counted_behind)

pub live_few : (m : Numbers) → AreNumbers m → count_by is_some m.places.items < length m.places.items
live_few m are = search (arith, few_behind)
