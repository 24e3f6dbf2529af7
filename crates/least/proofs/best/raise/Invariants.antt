use Rattle.std.proofs.Common.{◌≡◌, ◌<◌, length, vec_capacity}
use Rattle.least.specs.Best.{IsBestBut}
use Rattle.least.proofs.best.raise.Given as goal

abbrev pub invariant-loop-at : goal.invariant-loop-at
invariant-loop-at l = record {
  within : l.at < length l.best.items;
  len : length l.best.items ≡ length l.initial.best.items;
  capacity : vec_capacity l.best ≡ vec_capacity l.initial.best;
  others : IsBestBut l.at l.dues.items l.best.items;
}

abbrev pub decreases-loop-at : goal.decreases-loop-at
decreases-loop-at l = l.at
