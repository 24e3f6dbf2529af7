-- The set of numbers that the leaves show, and how the levels above sum them up.
use Rattle.std.specs.Prelude.{◌≡◌, ℕ, ◌*◌, ◌≤◌, ◌==◌, Bool, List, length, map, min, slice_index}
use Rattle.std.specs.List.{range_with_len}
use Rattle.std.specs.Int.{bit_at}
use Rattle.least.specs.Bits.{bit}
use Rattle.least.specs.Taken.{taken_count}

-- the numbers below n that are taken: those whose bit is clear
abbrev pub taken_in : List ℕ → ℕ → List Bool
taken_in leaves n = map (λ k. bit leaves k == 0) (range_with_len 0 n)

-- each bit says whether the word with its number has a bit
abbrev pub SumsUp : (ℕ → ℕ) → List ℕ → Type 0
SumsUp bits words = (w : ℕ) → bits w ≡ min 1 (slice_index words w)

-- there are words for n numbers, no bit is set past them, each level is summed up by the one above it, and so many
-- numbers are taken
pub record IsSummedUp (top : ℕ) (middle leaves : List ℕ) (n count : ℕ) : Type 0 where
  pub at_most : n ≤ 65536
  pub few_leaves : length leaves ≤ 1024
  pub few_middle : length middle ≤ 16
  pub room : n ≤ 64 * length leaves
  pub room_above : length leaves ≤ 64 * length middle
  pub none_past : (k : ℕ) → n ≤ k → bit leaves k ≡ 0
  pub leaves_summed : SumsUp (bit middle) leaves
  pub middle_summed : SumsUp (bit_at top) middle
  pub counted : count ≡ taken_count (taken_in leaves n)
