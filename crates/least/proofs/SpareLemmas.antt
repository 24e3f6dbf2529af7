-- What the spare does to the set that the levels show.
use Rattle.std.proofs.lemmas.Bool.Decides.{nat_tests}
use Rattle.std.proofs.lemmas.Grind.{elements}
use Rattle.std.proofs.Common.{◌≡◌, ◌≢◌, ℕ, ◌<◌, List, [], ◌∷◌, ◌++◌, length, min, Bool, true, false, eqb, Option, Some, set, arith}
use Rattle.std.specs.Prelude.{slice_get}
use Rattle.std.specs.Option.{option_eq}
use Rattle.std.proofs.lemmas.List.{set-set, set_comm, set-append_left, set-get_or}
use Rattle.std.proofs.lemmas.Option.{slice_get_within}
use Rattle.least.specs.Taken.{least_free}
use Rattle.least.specs.Spare.{with_spare, IsSpare}

-- one more free number
least_set : (taken : List Bool) (n : ℕ) → n < length taken → least_free (set taken n false) ≡ min n (least_free taken)
least_set [] n lt = absurd (omega arith)
least_set (x ∷ taken) n lt = grind (arith, nat_tests, least_set taken)

pub get-set_other : (taken : List Bool) (n k : ℕ) (b : Bool) → n ≢ k → slice_get (set taken n b) k ≡ slice_get taken k
get-set_other taken n k b ne = grind (arith, nat_tests, elements)

pub get-set_same : (taken : List Bool) (n : ℕ) (b : Bool) → n < length taken → slice_get (set taken n b) n ≡ Some b
get-set_same taken n b lt = grind (arith, nat_tests, elements)

-- the least free number is the spare or that of the levels
pub least-with_spare : (taken : List Bool) (spare : Option ℕ) (s : ℕ) → IsSpare taken spare → spare ≡ Some s
    → least_free (with_spare taken spare) ≡ min s (least_free taken)
least-with_spare a0 a1 a2 a3 a4 = search (arith, least_set, slice_get_within)

-- the spare is taken
pub spare_taken : (taken : List Bool) (spare : Option ℕ) (n : ℕ) → IsSpare taken spare
    → option_eq eqb spare (Some n) ≡ true → taken ≡ set (with_spare taken spare) n true
spare_taken a0 a1 a2 a3 a4 = grind (arith, elements, set-get_or, set-set)

-- another number than the spare
pub free_in_levels : (taken : List Bool) (spare : Option ℕ) (n : ℕ) → option_eq eqb spare (Some n) ≡ false
    → slice_get (with_spare taken spare) n ≡ Some false → slice_get taken n ≡ Some false
free_in_levels a0 a1 a2 a3 a4 = search (arith, get-set_other)

pub still_spare : (taken : List Bool) (spare : Option ℕ) (n : ℕ) (b : Bool) → option_eq eqb spare (Some n) ≡ false
    → IsSpare taken spare → IsSpare (set taken n b) spare
still_spare a0 a1 a2 a3 a4 a5 = search (arith, get-set_other)

pub with_spare_set : (taken : List Bool) (spare : Option ℕ) (n : ℕ) (b : Bool) → option_eq eqb spare (Some n) ≡ false
    → with_spare (set taken n b) spare ≡ set (with_spare taken spare) n b
with_spare_set a0 a1 a2 a3 a4 = search (arith, set_comm)

-- a number that is taken is another
pub other_than_spare : (taken : List Bool) (spare : Option ℕ) (n : ℕ) → IsSpare taken spare
    → slice_get (with_spare taken spare) n ≡ Some true → option_eq eqb spare (Some n) ≡ false
other_than_spare a0 a1 a2 a3 a4 = search (arith, get-set_same, slice_get_within)

-- one more number
pub with_spare_grown : (taken : List Bool) (spare : Option ℕ) → IsSpare taken spare
    → with_spare (taken ++ true ∷ []) spare ≡ with_spare taken spare ++ true ∷ []
with_spare_grown a0 a1 a2 = search (arith, set-append_left, slice_get_within)

-- a number that is taken is so in the levels
pub taken_in_levels : (taken : List Bool) (spare : Option ℕ) (n : ℕ) → IsSpare taken spare
    → slice_get (with_spare taken spare) n ≡ Some true → slice_get taken n ≡ Some true
taken_in_levels a0 a1 a2 a3 a4 = search (arith, get-set_same, get-set_other, slice_get_within)
