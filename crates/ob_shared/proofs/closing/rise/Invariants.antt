use Rattle.std.proofs.Common.{take}
use Rattle.ob_shared.proofs.Numbers.{HaveRisen}
use Rattle.ob_shared.proofs.closing.rise.Given as goal

abbrev pub invariant-loop-lane : goal.invariant-loop-lane
invariant-loop-lane l = HaveRisen (take l.lane-index l.lanes) l.least
