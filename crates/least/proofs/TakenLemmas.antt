-- What the callers of a set of numbers need of its least free number, and of the numbers that are taken.
use Rattle.std.proofs.lemmas.Grind.{elements}
use Rattle.std.proofs.Common.{◌≡◌, ℕ, ◌-◌, ◌<◌, List, Bool, true, false, length, replicate, set, Some, arith}
use Rattle.std.specs.Prelude.{slice_get}
use Rattle.std.proofs.lemmas.List.Sums.{passes_at_first}
use Rattle.least.specs.Taken.{least_free}
use Rattle.least.proofs.SpareLemmas.{get-set_other}

-- the least free number that is below the length can be taken
pub slice_get_least_free : (taken : List Bool) → least_free taken < length taken
    → slice_get taken (least_free taken) ≡ Some false
slice_get_least_free taken lt = grind (arith, elements, passes_at_first)

-- all numbers below n are taken
pub record AreTaken (taken : List Bool) (n : ℕ) : Type 0 where
  pub each : (k : ℕ) → k < n → slice_get taken k ≡ Some true

pub all_taken : (n : ℕ) → AreTaken (replicate n true) n
all_taken n = grind (arith, elements)

pub one_fewer_taken : (taken : List Bool) (n : ℕ) → 0 < n → AreTaken taken n
    → AreTaken (set taken (n - 1) false) (n - 1)
one_fewer_taken taken n some all = search (arith, get-set_other)

-- what draining a set and filling it needs
pub ruleset drained_and_filled = (slice_get_least_free, all_taken, one_fewer_taken)
