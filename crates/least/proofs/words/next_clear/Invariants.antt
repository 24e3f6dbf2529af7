use Rattle.std.proofs.Common.{◌≡◌, ℕ, ◌-◌, ◌<◌, ◌≤◌}
use Rattle.least.specs.Bits.{bit}
use Rattle.least.proofs.words.next_clear.Given as goal

abbrev pub invariant-loop-n : goal.invariant-loop-n
invariant-loop-n l = record {
  above : l.from ≤ l.n;
  none : (k : ℕ) → l.from ≤ k → k < l.n → bit l.words.items k ≡ 0 → ⊥;
}

abbrev pub decreases-loop-n : goal.decreases-loop-n
decreases-loop-n l = l.len - l.n
