use Rattle.std.proofs.Common.{◌≡◌, ◌≤◌, ◌-◌, ◌+◌, ℕ, length}
use Rattle.least.specs.Taken.{is_taken}
use Rattle.least.proofs.free.LeastFree.make_room.Given as goal

abbrev pub invariant-loop-self : goal.invariant-loop-self
invariant-loop-self l = record {
  same : (k : ℕ) → is_taken l.self k ≡ is_taken l.fn.self k;
  longer : length l.fn.self ≤ length l.self;
}

abbrev pub decreases-loop-self : goal.decreases-loop-self
decreases-loop-self l = l.n + 1 - length l.self
