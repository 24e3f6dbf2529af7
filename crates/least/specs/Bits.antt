-- A list of words as a list of bits.
use Rattle.std.specs.Prelude.{ℕ, ◌/◌, ◌%◌, List, slice_index}
use Rattle.std.specs.Int.{bit_at}

-- bit n of the words, 64 in each
abbrev pub bit : List ℕ → ℕ → ℕ
bit ws n = bit_at (slice_index ws (n / 64)) (n % 64)
