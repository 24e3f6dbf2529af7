-- A list of optional values by number, of which only the values that are there take room.
use Rattle.std.specs.Prelude.{◌≡◌, ℕ, zero, suc, ◌<◌, List, [], ◌∷◌, ◌++◌, Option, None}

-- what a function gives for the numbers below one
unfoldable pub listed : {A : Type 0} → ℕ → (ℕ → A) → List A
listed zero f = []
listed (suc n) f = listed n f ++ f n ∷ []

-- only the numbers from 1 to the last have a value
pub record IsSparse {A : Type 0} (last : ℕ) (f : ℕ → Option A) : Type 0 where
  pub zero_has_none : f 0 ≡ None
  pub past_has_none : (n : ℕ) → last < n → f n ≡ None
