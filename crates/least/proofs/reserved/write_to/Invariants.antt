use Rattle.std.proofs.Common.{◌≡◌, ◌-◌, ◌+◌, length, vec_capacity}
use Rattle.least.specs.Padded.{padded}
use Rattle.least.proofs.reserved.write_to.Given as goal

abbrev pub invariant-loop-none : goal.invariant-loop-none
invariant-loop-none g l = record {
  same : padded l.none (l.place + 1) l.items.items ≡ padded l.none (l.place + 1) l.initial.items.items;
  capacity : vec_capacity l.items ≡ vec_capacity l.initial.items;
}

abbrev pub decreases-loop-none : goal.decreases-loop-none
decreases-loop-none g l = l.place + 1 - length l.items.items
