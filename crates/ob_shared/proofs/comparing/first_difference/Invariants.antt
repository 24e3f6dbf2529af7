use Rattle.std.proofs.Common.{◌<◌, ℕ, get_or, length}
use Rattle.ob_shared.specs.Lanes.{LaneState}
use Rattle.ob_shared.specs.Closing.{IsPart}
use Rattle.ob_shared.proofs.comparing.first_difference.Given as goal

abbrev pub invariant-loop-k : goal.invariant-loop-k
invariant-loop-k l = ((i : ℕ) (d : LaneState) → i < l.k → IsPart l.journal (get_or l.lanes i d))
    × ((i : ℕ) (d : LaneState) → i < l.whole → i < length l.lanes → IsPart l.journal (get_or l.lanes i d))
