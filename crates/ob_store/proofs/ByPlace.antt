-- What holds of each element of a list, and of what stands past its end, holds at each place.
use Rattle.ob_store.proofs.Cited.{◌≡◌, ℕ, ◌∙◌, zero, suc, ◌<◌, Bool, true, List, [], ◌∷◌, ap, length, get_or, replicate, sym, arith, get_or-replicate, get_or-map, get_or_past, length-map, length-replicate, map, and_parts, AllByRecursion, list_all, range_with_len, All-from_get_or, get_or-range_with_len, length-range_with_len, AllPass-from_list_all, list_all-from_AllPass}

-- a test that each element passes, and that holds of what stands for none
pub all_at : {A : Type 0} (p : A → Bool) (xs : List A) (none : A) → p none ≡ true → list_all p xs ≡ true →
    (n : ℕ) → p (get_or xs n none) ≡ true
all_at p [] none past all n = past
all_at p (x ∷ xs) none past all zero = (and_parts (p x) (list_all p xs) all).0
all_at p (x ∷ xs) none past all (suc n) = all_at p xs none past (and_parts (p x) (list_all p xs) all).1 n

pub all_from : {A : Type 0} (p : A → Bool) (xs : List A) (none : A) →
    ((n : ℕ) → n < length xs → p (get_or xs n none) ≡ true) → list_all p xs ≡ true
all_from p xs none each = list_all-from_AllPass p xs (All-from_get_or (λ x. p x ≡ true) xs none each)

pub all_by_place : {A : Type 0} (P : A → Type 0) (d : A) (xs : List A) → ((k : ℕ) → k < length xs → P (get_or xs k d))
    → AllByRecursion P xs
all_by_place P d [] each = tt
all_by_place P d (x ∷ xs) each = (each 0 (omega arith), all_by_place P d xs (λ k lt. each (suc k) (omega arith)))

number_at : (n k : ℕ) → k < n → get_or (range_with_len 0 n) k 0 ≡ k
number_at n k lt = search (arith, get_or-range_with_len)

-- a test of each number below one
pub below_from : (p : ℕ → Bool) (n : ℕ) → ((k : ℕ) → k < n → p k ≡ true) → list_all p (range_with_len 0 n) ≡ true
below_from p n each = all_from p (range_with_len 0 n) 0 (search (arith, get_or-range_with_len, length-range_with_len))

pub below_at : (p : ℕ → Bool) (n k : ℕ) → list_all p (range_with_len 0 n) ≡ true → k < n → p k ≡ true
below_at p n k all lt = ap p (sym (number_at n k lt))
    ∙ AllPass-from_list_all p (range_with_len 0 n) all k 0 (omega (arith, length-range_with_len 0 n))

-- what is read off a list, at a place
pub map_at : {A B : Type 0} (f : A → B) (xs : List A) (k : ℕ) (d : A) → get_or (map f xs) k (f d) ≡ f (get_or xs k d)
map_at f xs k d = search (arith, get_or-map, get_or_past, length-map)

-- a list of what stands for none
pub replicate_at : {A : Type 0} (n k : ℕ) (none : A) → get_or (replicate n none) k none ≡ none
replicate_at n k none = search (arith, get_or-replicate, get_or_past, length-replicate)
