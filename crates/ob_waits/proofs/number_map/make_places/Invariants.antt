use Rattle.std.proofs.Common.{◌≡◌, ◌-◌, ◌+◌, ℕ, length, None, get_or}
use Rattle.ob_waits.proofs.number_map.make_places.Given as goal

abbrev pub invariant-loop-places : goal.invariant-loop-places
invariant-loop-places l = (i : ℕ) → get_or l.places.items i None ≡ get_or l.initial.places.items i None

abbrev pub decreases-loop-places : goal.decreases-loop-places
decreases-loop-places l = l.mask + 1 - length l.places.items
