-- What a mutex is.
use Rattle.std.specs.Prelude.{◌≡◌, ℕ, ◌<◌, ◌≤◌, Bool, false, Option, Some, None}

pub record MutexState : Type 0 where
  -- the thread that owns it
  pub owner : Option ℕ
  -- how many times it does
  pub recursion : ℕ
  -- whether its last owner ended, and nobody acquired it since
  pub abandoned : Bool

-- a thread owns it from 1 to 2,147,483,647 times, and then it isn't abandoned; nobody owns it no times
abbrev pub IsPossible : Option ℕ → ℕ → Bool → Type 0
IsPossible None recursion abandoned = recursion ≡ 0
IsPossible (Some owner) recursion abandoned = (0 < recursion) × (recursion ≤ 2147483647) × (abandoned ≡ false)
