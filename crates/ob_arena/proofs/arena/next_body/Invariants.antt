use Rattle.ob_arena.proofs.Cited.{◌≡◌, ℕ, ◌-◌, ◌<◌, ◌≤◌, false, get_or, length, Vacant, is_occupied}
use Rattle.ob_arena.proofs.arena.next_body.Given as goal

abbrev pub invariant-loop-slot : goal.invariant-loop-slot
invariant-loop-slot l = record {
  above : l.from ≤ l.at;
  none : (k : ℕ) → l.from ≤ k → k < l.at → is_occupied (get_or l.phases.items k Vacant) ≡ false;
}

abbrev pub decreases-loop-slot : goal.decreases-loop-slot
decreases-loop-slot l = length l.phases.items - l.at
