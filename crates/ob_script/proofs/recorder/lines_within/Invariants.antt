use Rattle.std.proofs.Common.{◌≢◌, ◌-◌, ◌<◌, ◌≤◌, ℕ, length, slice_index_or}
use Rattle.ob_script.proofs.recorder.lines_within.Given as goal

abbrev pub invariant-loop-count : goal.invariant-loop-count
invariant-loop-count l = (l.count ≤ l.room) × (l.count ≤ length l.text)
    × ((n : ℕ) → l.count < n → n ≤ l.room → n ≤ length l.text → slice_index_or l.text (n - 1) 0 ≢ 10)

abbrev pub decreases-loop-count : goal.decreases-loop-count
decreases-loop-count l = l.count
