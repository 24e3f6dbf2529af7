-- A tree over the places, in which places 2 * n + 1 and 2 * n + 2 stand below place n: the least moment at or below
-- each.
use Rattle.std.specs.Prelude.{◌≡◌, ◌≢◌, ℕ, ◌+◌, ◌*◌, ◌≤◌, List, Option, Some, None, length, min}
use Rattle.least.specs.Dues.{due_at}

-- the lesser of two moments, or the one that is there
abbrev pub sooner : Option ℕ → Option ℕ → Option ℕ
sooner None second = second
sooner (Some x) None = Some x
sooner (Some x) (Some y) = Some (min x y)

-- the least of the place's own moment and what the two places below it have
abbrev pub best_below : List (Option ℕ) → List (Option ℕ) → ℕ → Option ℕ
best_below dues best place = sooner (due_at dues place)
    (sooner (due_at best (2 * place + 1)) (due_at best (2 * place + 2)))

-- each place has that
abbrev pub IsBest : List (Option ℕ) → List (Option ℕ) → Type 0
IsBest dues best = (place : ℕ) → due_at best place ≡ best_below dues best place

-- each but one
abbrev pub IsBestBut : ℕ → List (Option ℕ) → List (Option ℕ) → Type 0
IsBestBut but dues best = (place : ℕ) → place ≢ but → due_at best place ≡ best_below dues best place

-- a tree as long as the list
pub record IsWhole (dues best : List (Option ℕ)) : Type 0 where
  pub room : length best ≡ length dues
  pub at_most : length best ≤ 4294967296
  pub each : IsBest dues best
