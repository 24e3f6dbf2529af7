-- A number for each slot, and what changes when one of them does.
use Rattle.ob_store.proofs.Cited.{◌≡◌, ℕ, ◌≢◌, ◌<◌, ◌≤◌, List, length, ◌∙◌, sym, arith, get_or, set, length-set, length-replicate, get_or-replicate, get_or_past, get_or-set_same, get_or-set_other, ext_get_or, get_or-map-range_with_len, length-map-range_with_len, by_slot, replicate}

pub get_by_slot : (n : ℕ) (f : ℕ → ℕ) (k : ℕ) → k < n → get_or (by_slot n f) k 0 ≡ f k
get_by_slot n f k lt = search (arith, get_or-map-range_with_len)

pub length-by_slot : (n : ℕ) (f : ℕ → ℕ) → length (by_slot n f) ≡ n
length-by_slot n f = length-map-range_with_len f 0 n

pub is_by_slot : (xs : List ℕ) (n : ℕ) (f : ℕ → ℕ) → length xs ≡ n → ((k : ℕ) → k < n → get_or xs k 0 ≡ f k)
    → xs ≡ by_slot n f
is_by_slot xs n f len each = ext_get_or 0 xs (by_slot n f) (len ∙ sym (length-by_slot n f)) (search (arith, get_by_slot))

-- a list that had one count in each slot has another
pub recounted : (xs ys : List ℕ) (n : ℕ) (f g : ℕ → ℕ) → xs ≡ by_slot n f → length ys ≡ length xs
    → ((k : ℕ) → k < n → get_or ys k 0 ≡ g k) → ys ≡ by_slot n g
recounted xs ys n f g is len each = search (arith, length-by_slot, is_by_slot)

pub count_at : (xs : List ℕ) (n : ℕ) (f : ℕ → ℕ) (k : ℕ) → xs ≡ by_slot n f → k < n → get_or xs k 0 ≡ f k
count_at xs n f k is lt = search (arith, get_by_slot)

pub counts_long : (xs : List ℕ) (n : ℕ) (f : ℕ → ℕ) → xs ≡ by_slot n f → length xs ≡ n
counts_long xs n f is = search (arith, length-by_slot)

-- no more is stored than is counted
pub count_few : (xs : List ℕ) (n : ℕ) (f : ℕ → ℕ) (k : ℕ) → xs ≡ by_slot n f → get_or xs k 0 ≤ f k
count_few xs n f k is = search (arith, count_at, counts_long, get_or_past)

-- one count changed
pub recounted_one : (xs : List ℕ) (n : ℕ) (f g : ℕ → ℕ) (s v : ℕ) → xs ≡ by_slot n f → ((k : ℕ) → k ≢ s → g k ≡ f k)
    → (s < n → v ≡ g s) → set xs s v ≡ by_slot n g
recounted_one xs n f g s v is others here = recounted xs (set xs s v) n f g is (length-set xs s v)
    (search (arith, count_at, counts_long, get_or-set_other, get_or-set_same))

-- none is counted
pub zero_counts : (n : ℕ) (f : ℕ → ℕ) → ((k : ℕ) → f k ≡ 0) → replicate n 0 ≡ by_slot n f
zero_counts n f none = is_by_slot (replicate n 0) n f (length-replicate n 0) (search (arith, get_or-replicate))
