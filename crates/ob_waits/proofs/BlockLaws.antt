-- The blocks of an object, counted along a list of numbers.
use Rattle.ob_waits.proofs.Cited.{at_place, ◌≡◌, ℕ, suc, ◌-◌, ◌+◌, ◌<◌, ◌≤◌, List, [], ◌∷◌, length, Option, None, refl, arith, get_or, set, inr, true, sum_by, count_by, ◌==◌, list_any, Id, Wait, blocks_in, names_slot, ids_of, get_or_past, get_or-set_other, set_past, sum_by-cons, sum_by-set, Within, IsRising, IsOrdered}
use Rattle.pin_core.specs.Holds.{same_id}

sum_same : (g h : ℕ → ℕ) (ns : List ℕ) → ((k : ℕ) → Within k ns → g k ≡ h k) → sum_by g ns ≡ sum_by h ns
sum_same g h [] same = refl
sum_same g h (n ∷ ns) same = search (arith, sum_by-cons, sum_same g h ns (λ k i. same k (inr i)))

module _ {A : Type 0} (f : Option A → ℕ) (none : f None ≡ 0) where
  sum_zero : (xs : List (Option A)) → ((n : ℕ) → f (get_or xs n None) ≡ 0) → sum_by f xs ≡ 0
  sum_zero [] h = refl
  sum_zero (x ∷ xs) h = omega (arith, sum_by-cons f x xs, h 0, sum_zero xs (λ n. h (suc n)))

  -- an element is replaced by one that counts nothing
  pub sum_cleared : (xs : List (Option A)) (n : ℕ) (x : Option A) → f x ≡ 0
      → sum_by f (set xs n x) + f (get_or xs n None) ≡ sum_by f xs
  sum_cleared xs n x zero = search (arith, get_or_past, set_past, sum_by-set)

  -- numbers that rise and have each place that counts sum up to the whole
  pub sum_numbers : (ns : List ℕ) (xs : List (Option A)) → IsRising ns
      → ((n : ℕ) → 0 < f (get_or xs n None) → Within n ns) → sum_by (λ n. f (get_or xs n None)) ns ≡ sum_by f xs
  sum_numbers [] xs rising has = search (arith, sum_zero)
  sum_numbers (m ∷ ns) xs rising has =
      let same = sum_same (λ n. f (get_or xs n None)) (λ n. f (get_or (set xs m None) n None)) ns
      (search (arith, get_or-set_other, rising.0)) in
      let rest = sum_numbers ns (set xs m None) rising.1 (λ n some. grind (arith, at_place, has n)) in
      omega (arith, sum_by-cons (λ n. f (get_or xs n None)) m ns, same, rest, sum_cleared xs m None none)

ordered_below : (low m : ℕ) (ns : List ℕ) → IsRising ns → ((k : ℕ) → Within k ns → low ≤ k)
    → ((k : ℕ) → Within k ns → k ≤ m) → length ns ≤ suc m - low
ordered_below low m [] r above below = omega arith
ordered_below low m (x ∷ ns) r above below =
    grind (arith, ordered_below (suc x) m ns r.1 r.0 (λ k i. below k (inr i)), above x, below x)

-- a list has no more numbers than there are
pub length-ordered : (m : ℕ) (ns : List ℕ) → IsOrdered m ns → length ns ≤ suc m
length-ordered m ns numbers = omega (arith, ordered_below 0 m ns numbers.rising (λ k i. omega arith) numbers.below)

-- a wait with a block of an object names its slot
ids_named : (id : Id) (ids : List Id) → 0 < count_by (same_id id) ids
    → list_any (λ (x : Id). x.slot == id.slot) ids ≡ true
ids_named id [] some = absurd (omega arith)
ids_named id (x ∷ ids) some = search (arith, ids_named id ids)

pub blocks_named : (id : Id) (w : Option Wait) → 0 < blocks_in id w → names_slot id.slot w ≡ true
blocks_named id w some = ids_named id (ids_of w) some
