-- Due moments by place, and the least of them. A place past the end has none.
use Rattle.std.specs.Prelude.{◌≡◌, ℕ, ◌≤◌, nat_le, Bool, false, if◌then◌else◌, List, Option, Some, None, IfSome, slice_index_or}

-- the moment at a place, or none
abbrev pub due_at : List (Option ℕ) → ℕ → Option ℕ
due_at dues place = slice_index_or dues place None

-- there is a moment, and it is not after another
abbrev pub NotAfter : Option ℕ → ℕ → Type 0
NotAfter None moment = ⊥
NotAfter (Some least) moment = least ≤ moment

-- the same as a test
abbrev pub is_by : ℕ → Option ℕ → Bool
is_by now None = false
is_by now (Some due) = nat_le due now

-- a moment that stands at some place and is after none; or none, where no place has one
pub record IsLeast (dues : List (Option ℕ)) (least : Option ℕ) : Type 0 where
  pub stands : IfSome least (λ moment. (place : ℕ) × (due_at dues place ≡ Some moment))
  pub first : (place moment : ℕ) → due_at dues place ≡ Some moment → NotAfter least moment

-- a moment that is not before another, or none
abbrev pub since : ℕ → Option ℕ → Option ℕ
since from None = None
since from (Some moment) = if nat_le from moment then Some moment else None

-- the same of the moments that are not before one
pub record IsLeastSince (from : ℕ) (dues : List (Option ℕ)) (least : Option ℕ) : Type 0 where
  pub stands : IfSome least (λ moment. (place : ℕ) × (due_at dues place ≡ Some moment))
  pub from_on : IfSome least (λ moment. from ≤ moment)
  pub first : (place moment : ℕ) → due_at dues place ≡ Some moment → from ≤ moment → NotAfter least moment
