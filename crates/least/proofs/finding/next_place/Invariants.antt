use Rattle.std.proofs.Common.{◌≡◌, ℕ, ◌<◌, ◌≤◌, None, false, get_or, is_some}
use Rattle.least.proofs.finding.next_place.Given as goal

abbrev pub invariant-loop-place : goal.invariant-loop-place
invariant-loop-place g l = record {
  above : l.from ≤ l.place;
  none : (k : ℕ) → l.from ≤ k → k < l.place → is_some (get_or l.places k None) ≡ false;
}
