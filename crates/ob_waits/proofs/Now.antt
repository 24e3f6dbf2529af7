-- What the answer of a wait that may not become pending says.
use Rattle.ob_waits.proofs.Cited.{arith, ◌≡◌, ◌<◌, ◌≤◌, ◌+◌, sym, ℕ, List, length, get_or, Bool, true, false, position_or_len, fails_before_first, passes_at_first, position_or_len_is, Id, nowhere}

-- the first that passes, where some are known to fail
module _ (p : Id → Bool) (xs : List Id) (i : ℕ) (before : i ≤ position_or_len p xs) where
  pub first_later : i < length xs → p (get_or xs i nowhere) ≡ false → i + 1 ≤ position_or_len p xs
  first_later lt fails = grind (arith, passes_at_first p xs)

  pub first_past : length xs ≤ i → length xs ≡ position_or_len p xs
  first_past past = sym (position_or_len_is p xs (length xs) nowhere (omega arith)
      (search (arith, fails_before_first)) (λ lt. absurd (omega arith)))

  pub first_here : i < length xs → p (get_or xs i nowhere) ≡ true → i ≡ position_or_len p xs
  first_here lt passes = search (arith, fails_before_first, position_or_len_is)
