-- How many numbers are taken, and what a change of one does to that.
use Rattle.std.proofs.Common.{◌≡◌, ◌≢◌, ℕ, zero, suc, ◌+◌, ◌-◌, ◌<◌, ◌≤◌, List, [], ◌∷◌, map, replicate, set, Bool, true, false, cond, Some, refl, ap, ◌∙◌, arith}
use Rattle.std.specs.Prelude.{count_by, fold, slice_get}
use Rattle.std.proofs.lemmas.List.Sums.{sum_by-cons, sum_by_push, count_by-le-length}
use Rattle.std.proofs.lemmas.Option.{slice_get_within}
use Rattle.least.specs.Bits.{bit}
use Rattle.least.specs.Levels.{taken_in}
use Rattle.least.specs.Taken.{taken_count}
use Rattle.least.proofs.LevelLemmas.{all_free, all_taken, free_bit, length_taken_in, taken_cleared, taken_freed, taken_more, taken_same}

pub one_first : (taken : List Bool) → taken_count (true ∷ taken) ≡ suc (taken_count taken)
one_first taken = search (arith, sum_by-cons)

pub none_first : (taken : List Bool) → taken_count (false ∷ taken) ≡ taken_count taken
none_first taken = search (arith, sum_by-cons)

-- one more is taken
pub one_more : (taken : List Bool) (k : ℕ) → slice_get taken k ≡ Some false
    → taken_count (set taken k true) ≡ taken_count taken + 1
one_more [] k is = absurd (cc is)
one_more (true ∷ taken) zero is = absurd (cc is)
one_more (false ∷ taken) zero is = omega (arith, one_first taken, none_first taken)
one_more (true ∷ taken) (suc k) is =
    omega (arith, one_first taken, one_first (set taken k true), one_more taken k is)
one_more (false ∷ taken) (suc k) is =
    omega (arith, none_first taken, none_first (set taken k true), one_more taken k is)

-- or one fewer
pub one_fewer : (taken : List Bool) (k : ℕ) → slice_get taken k ≡ Some true
    → taken_count (set taken k false) + 1 ≡ taken_count taken
one_fewer [] k is = absurd (cc is)
one_fewer (true ∷ taken) zero is = omega (arith, one_first taken, none_first taken)
one_fewer (false ∷ taken) zero is = absurd (cc is)
one_fewer (true ∷ taken) (suc k) is =
    omega (arith, one_first taken, one_first (set taken k false), one_fewer taken k is)
one_fewer (false ∷ taken) (suc k) is =
    omega (arith, none_first taken, none_first (set taken k false), one_fewer taken k is)

-- all are
pub all_counted : (n : ℕ) → taken_count (replicate n true) ≡ n
all_counted zero = refl
all_counted (suc n) = omega (arith, one_first (replicate n true), all_counted n)

-- a number is taken where something passes a test
pub counted_map : {X : Type 0} (test : X → Bool) (xs : List X) → taken_count (map test xs) ≡ count_by test xs
counted_map {X} test xs = along 0 xs
  where
    along : (a : ℕ) (ys : List X)
        → fold (λ s b. s + cond b 1 0) a (map test ys) ≡ fold (λ s y. s + cond (test y) 1 0) a ys
    along a [] = refl
    along a (y ∷ ys) = along (a + cond (test y) 1 0) ys

-- the numbers that the leaves show
pub few_in : (ws : List ℕ) (n : ℕ) → taken_count (taken_in ws n) ≤ n
few_in ws n = omega (arith, count_by-le-length (λ b. b) (taken_in ws n), length_taken_in ws n)

pub taken_within : (ws : List ℕ) (n k : ℕ) (is_one : Bool) (taken : List Bool) → taken_in ws n ≡ taken
    → slice_get taken k ≡ Some is_one → k < n
taken_within ws n k is_one taken shown is = search (arith, slice_get_within, length_taken_in)

pub some_in : (ws : List ℕ) (n k : ℕ) (taken : List Bool) → taken_in ws n ≡ taken → slice_get taken k ≡ Some true
    → 1 ≤ taken_count (taken_in ws n)
some_in ws n k taken shown is = omega (arith, one_fewer (taken_in ws n) k (ap (λ t. slice_get t k) shown ∙ is))

pub all_in : (ws : List ℕ) (n : ℕ) → ((k : ℕ) → bit ws k ≡ 0) → n ≡ taken_count (taken_in ws n)
all_in ws n none = search (arith, all_taken, all_counted)

pub none_counted : (n : ℕ) → taken_count (replicate n false) ≡ 0
none_counted zero = refl
none_counted (suc n) = omega (arith, none_first (replicate n false), none_counted n)

pub none_in : (ws : List ℕ) (n : ℕ) → ((k : ℕ) → k < n → bit ws k ≡ 1) → 0 ≡ taken_count (taken_in ws n)
none_in ws n set_below = search (arith, all_free, none_counted)

pub counted_cleared : (ws ws' : List ℕ) (n k count : ℕ) (taken : List Bool) → taken_in ws n ≡ taken
    → slice_get taken k ≡ Some false → bit ws' k ≡ 0 → ((j : ℕ) → j ≢ k → bit ws' j ≡ bit ws j)
    → count ≡ taken_count (taken_in ws n) → count + 1 ≡ taken_count (taken_in ws' n)
counted_cleared ws ws' n k count taken shown is here others counted =
    let lt : k < n = (free_bit ws n k taken shown is).0 in
    omega (
      arith,
      counted,
      ap taken_count (taken_cleared ws ws' n k lt here others),
      one_more (taken_in ws n) k (ap (λ t. slice_get t k) shown ∙ is),
    )

pub counted_freed : (ws ws' : List ℕ) (n k count : ℕ) (taken : List Bool) → taken_in ws n ≡ taken
    → slice_get taken k ≡ Some true → bit ws' k ≡ 1 → ((j : ℕ) → j ≢ k → bit ws' j ≡ bit ws j)
    → count ≡ taken_count (taken_in ws n) → count - 1 ≡ taken_count (taken_in ws' n)
counted_freed ws ws' n k count taken shown is here others counted =
    let lt = taken_within ws n k true taken shown is in
    search (arith, taken_freed, one_fewer (taken_in ws n) k)

pub counted_more : (ws ws' : List ℕ) (n count : ℕ) → ((k : ℕ) → bit ws' k ≡ bit ws k) → bit ws n ≡ 0
    → count ≡ taken_count (taken_in ws n) → count + 1 ≡ taken_count (taken_in ws' (n + 1))
counted_more ws ws' n count same none counted = search (arith, taken_more, taken_same ws ws', sum_by_push)
