-- The least number, from one on, that passes a test.
use Rattle.std.specs.Prelude.{◌≡◌, ◌≤◌, ℕ, Bool, true, Option, Some, None, IfSome}

-- a bound, if there is one
abbrev pub IsAtMost : Option ℕ → ℕ → Type 0
IsAtMost None n = ⊥
IsAtMost (Some bound) n = bound ≤ n

pub record IsLeastFrom (from : ℕ) (test : ℕ → Bool) (result : Option ℕ) : Type 0 where
  pub passes : IfSome result (λ n. test n ≡ true)
  pub above : IfSome result (λ n. from ≤ n)
  pub least : (n : ℕ) → from ≤ n → test n ≡ true → IsAtMost result n
