use Rattle.std.proofs.Common.{◌≡◌, ◌<◌, ℕ, get_or, length}
use Rattle.ob_shared.specs.Lanes.{LaneState}
use Rattle.ob_shared.proofs.comparing.have_ended.Given as goal

abbrev pub invariant-loop-k : goal.invariant-loop-k
invariant-loop-k l = (i : ℕ) (d : LaneState) → i < l.k → length (get_or l.lanes i d).list ≡ get_or l.read i 0
