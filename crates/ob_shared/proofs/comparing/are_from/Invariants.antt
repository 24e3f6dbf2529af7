use Rattle.std.proofs.Common.{◌≡◌, ◌+◌, ◌<◌, ℕ, get_or}
use Rattle.ob_shared.specs.Lanes.{LaneState}
use Rattle.ob_shared.proofs.comparing.are_from.Given as goal

abbrev pub invariant-loop-k : goal.invariant-loop-k
invariant-loop-k l = (i : ℕ) (d : LaneState) → i < l.k → (get_or l.lanes i d).number ≡ l.first + i
