-- A record that is turned on and off, and taken piece by piece.
use Rattle.std.specs.Prelude.{◌≡◌, ◌≢◌, ◌⊎◌, ℕ, ◌-◌, ◌<◌, ◌≤◌, Bool, true, false, List, ◌++◌, codes, drop, length, slice_index_or}
use Rattle.ob_script.specs.Printed.{line_end}

-- lines that weren't taken yet, and whether calls are recorded
pub record Recording : Type 0 where
  pub text : List ℕ
  pub is_on : Bool

abbrev pub recording : List ℕ → Bool → Recording
recording text is_on = record { text = text; is_on = is_on }

-- the line behind which nothing is recorded, since memory was wanting
abbrev pub last_line : List ℕ
last_line = codes "# recording stopped: no memory" ++ line_end

-- while it is on lines are added; or memory was wanting, which is said, and it is off
abbrev pub Adds : Recording → List ℕ → Recording → Type 0
Adds old lines new = (new ≡ recording (old.text ++ lines) true) ⊎ (new ≡ recording (old.text ++ last_line) false)

abbrev pub AddsWhere : Bool → Recording → List ℕ → Recording → Type 0
AddsWhere true old lines new = Adds old lines new
AddsWhere false old lines new = new ≡ old

abbrev pub Notes : Recording → List ℕ → Recording → Type 0
Notes old lines new = AddsWhere old.is_on old lines new

-- Whole lines are taken from the front, as many as there is room for: so many bytes, which end behind a line feed, or
-- none.
pub record TakesLines (old room : List ℕ) (count : ℕ) (new after : List ℕ) : Type 0 where
  pub front : List ℕ
  pub whole : old ≡ front ++ new
  pub told : count ≡ length front
  pub put : after ≡ front ++ drop count room
  pub fits : count ≤ length room
  pub ends : 0 < count → slice_index_or old (count - 1) 0 ≡ 10
  pub most : (n : ℕ) → count < n → n ≤ length room → n ≤ length old → slice_index_or old (n - 1) 0 ≢ 10
