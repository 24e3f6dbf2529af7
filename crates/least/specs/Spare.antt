-- A set of numbers with a spare: a number that is free, though the levels have it as taken.
use Rattle.std.specs.Prelude.{◌≡◌, ℕ, Bool, true, false, List, Option, Some, None, IfSome, slice_get, slice_set}

-- the set that the levels and the spare show
abbrev pub with_spare : List Bool → Option ℕ → List Bool
with_spare taken None = taken
with_spare taken (Some n) = slice_set taken n false

-- the levels have the spare as taken
abbrev pub IsSpare : List Bool → Option ℕ → Type 0
IsSpare taken spare = IfSome spare (λ n. slice_get taken n ≡ Some true)
