use Rattle.std.proofs.Common.{◌≡◌, drop}
use Rattle.ob_shared.specs.Closing.{has_twice}
use Rattle.ob_shared.proofs.closing.has_twice.Given as goal

abbrev pub invariant-loop-i : goal.invariant-loop-i
invariant-loop-i l = has_twice (drop l.i l.lanes) ≡ has_twice l.lanes
