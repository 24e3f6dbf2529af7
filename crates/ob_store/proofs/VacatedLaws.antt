-- The tables of processes that aren't live are empty: as a test of what is read, and as it is kept.
use Rattle.ob_store.proofs.Cited.{is_some, cases_lt, get_or_past, Entry, ◌≡◌, ℕ, not, true, ltb, List, [], ◌∷◌, length, Option, None, refl, arith, get_or, inl, inr}
use Rattle.std.proofs.Common.{◌||◌}
use Rattle.ob_store.specs.SavedStore.{are_vacated}
use Rattle.ob_store.proofs.ByPlace.{below_at, below_from}

empty_of : (o : Option ℕ) (t : List (Option Entry)) → (is_some o || not (ltb 0 (length t))) ≡ true → o ≡ None → t ≡ []
empty_of o [] pass none = refl
empty_of o (x ∷ t) pass none = grind arith

module _ (ps : List (Option ℕ)) (ts : List (List (Option Entry))) where
  pub vacated_pass : ((q : ℕ) → get_or ps q None ≡ None → get_or ts q [] ≡ []) → (n : ℕ) → are_vacated ps ts n ≡ true
  vacated_pass each n = search (arith, below_from)

  pub vacated_from : (n : ℕ) → length ts ≡ n → are_vacated ps ts n ≡ true → (q : ℕ) → get_or ps q None ≡ None
      → get_or ts q [] ≡ []
  vacated_from n long all q none = elim (cases_lt q n) [ inl lt ↦ empty_of _ _ (below_at _ n q all lt) none | inr past ↦ search (arith, get_or_past) ]
