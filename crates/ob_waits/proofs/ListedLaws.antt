-- What a list that a function gives has at each number, and how it changes with the function.
use Rattle.ob_waits.proofs.Cited.{at_place, nat_tests, ◌≡◌, ℕ, zero, suc, ◌<◌, [], ◌∷◌, ◌++◌, length, Option, None, refl, arith, get_or, set, cond, eqb, length-set, length_push, set_past, get_or_past, get_or-set_same, get_or-set_other, ext_get_or, cond-false, cond-true, eq-eqb, ne_eqb, IsSparse}
use Rattle.ob_waits.specs.Listed.{listed}

module _ {A : Type 0} where
  pub length_listed : (n : ℕ) (f : ℕ → A) → length (listed n f) ≡ n
  unfolding listed
  length_listed zero f = refl
  length_listed (suc n) f = search (arith, length_push, length_listed n f)

  get_or-listed : (n : ℕ) (f : ℕ → A) (k : ℕ) (d : A) → k < n → get_or (listed n f) k d ≡ f k
  unfolding listed
  get_or-listed zero f k d lt = absurd (omega arith)
  get_or-listed (suc n) f k d lt = grind (arith, nat_tests, at_place, length_listed n f, get_or-listed n f k d)

  listed_by : (n : ℕ) (f g : ℕ → A) → ((k : ℕ) → k < n → f k ≡ g k) → listed n f ≡ listed n g
  unfolding listed
  listed_by zero f g same = refl
  listed_by (suc n) f g same = search (arith, listed_by n f g (λ k lt. same k (omega arith)))

module _ {A : Type 0} where
  -- each number's value
  pub value_at : (n : ℕ) (f : ℕ → Option A) (k : ℕ) → IsSparse n f → get_or (listed (suc n) f) k None ≡ f k
  value_at n f k s = search (arith, length_listed, get_or-listed, get_or_past)

  -- one number's value changed, or one more number
  pub listed_updated : (n : ℕ) (f g : ℕ → Option A) (k : ℕ) (x : Option A) → k < suc n
      → ((q : ℕ) → g q ≡ cond (eqb k q) x (f q)) → listed (suc n) g ≡ set (listed (suc n) f) k x
  listed_updated n f g k x lt changed = ext_get_or None _ _ (search (arith, length_listed, length-set))
      (search (arith, length_listed, get_or-listed, get_or-set_other, get_or-set_same, cond-false, ne_eqb, cond-true, eq-eqb))

  pub listed_removed : (n : ℕ) (f g : ℕ → Option A) (k : ℕ) → ((q : ℕ) → g q ≡ cond (eqb k q) None (f q))
      → listed (suc n) g ≡ set (listed (suc n) f) k None
  listed_removed n f g k changed = search (arith, length_listed, listed_by, listed_updated, set_past)

  pub listed_inserted : (n k : ℕ) (f g : ℕ → Option A) (x : Option A) → k ≡ suc n
      → ((q : ℕ) → g q ≡ cond (eqb k q) x (f q)) → listed (suc k) g ≡ listed (suc n) f ++ x ∷ []
  unfolding listed
  listed_inserted n k f g x is changed = search (arith, listed_by, cond-true, eq-eqb, cond-false, ne_eqb)
