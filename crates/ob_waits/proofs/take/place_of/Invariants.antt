use Rattle.ob_waits.proofs.Cited.{ℕ, ◌<◌, ◌≢◌, get_or, nowhere}
use Rattle.ob_waits.proofs.take.place_of.Given as goal

abbrev pub invariant-loop-i : goal.invariant-loop-i
invariant-loop-i l = (k : ℕ) → k < l.i → (get_or l.ids k nowhere).slot ≢ l.slot
