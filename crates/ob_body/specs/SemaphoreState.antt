-- What a semaphore is.
use Rattle.std.specs.Prelude.{ℕ, ◌<◌, ◌≤◌}

pub record SemaphoreState : Type 0 where
  pub count : ℕ
  pub maximum : ℕ

-- the count is from 0 to the maximum, which is from 1 to 2,147,483,647
pub record IsPossible (count maximum : ℕ) : Type 0 where
  pub above_zero : 0 < maximum
  pub within : count ≤ maximum
  pub countable : maximum ≤ 2147483647
