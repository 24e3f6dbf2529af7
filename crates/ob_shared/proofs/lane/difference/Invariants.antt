use Rattle.std.proofs.Common.{◌≡◌, ◌≤◌, length, take}
use Rattle.ob_shared.specs.Lanes.{part}
use Rattle.ob_shared.proofs.lane.difference.Given as goal

abbrev pub invariant-loop-entry : goal.invariant-loop-entry
invariant-loop-entry l = (l.place ≤ length l.list)
    × (take l.place l.list ≡ part l.number (take l.entry-index l.journal))
