use Rattle.ob_console.proofs.Cited.{◌≡◌, ◌+◌, [], replicate}
use Rattle.ob_console.proofs.lanes.scripts.LaneScripts.new.Given as goal

abbrev pub invariant-loop-number : goal.invariant-loop-number
invariant-loop-number l = l.scripts.items ≡ replicate (l.number + 1) []
