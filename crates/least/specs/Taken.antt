-- A set of numbers as a list: whether each number below its length is taken. The numbers from there on are free.
use Rattle.std.specs.Prelude.{ℕ, Bool, true, false, not, List, count_by, slice_index_or}
use Rattle.std.specs.List.{position_or_len}

-- the least number that is not taken
abbrev pub least_free : List Bool → ℕ
least_free taken = position_or_len not taken

-- whether a number is below the length and free
abbrev pub is_free_within : List Bool → ℕ → Bool
is_free_within taken n = not (slice_index_or taken n true)

-- whether a number is taken
abbrev pub is_taken : List Bool → ℕ → Bool
is_taken taken n = slice_index_or taken n false

-- how many numbers are taken
abbrev pub taken_count : List Bool → ℕ
taken_count taken = count_by (λ b. b) taken
