-- What a waitable timer is.
use Rattle.std.specs.Prelude.{ℕ, nat_lt, ◌==◌, ◌||◌, Bool, not, Option, Some, None}

pub record TimerState : Type 0 where
  -- whether it stays signaled until it is set again
  pub manual : Bool
  -- whether it is signaled, for every thread
  pub signaled : Bool
  -- the moment at which it becomes signaled, if it is set
  pub due : Option ℕ
  -- how long after that moment it becomes so again, and so on, in milliseconds; 0 where it doesn't
  pub period : ℕ

-- whether it can be: one that isn't set has no period; one that is set without a period isn't signaled, since setting
-- it takes the signal away, and its moment takes itself away
abbrev pub is_possible : Bool → Option ℕ → ℕ → Bool
is_possible signaled None period = period == 0
is_possible signaled (Some due) period = nat_lt 0 period || not signaled
