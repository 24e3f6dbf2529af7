use Rattle.ob_waits.proofs.Cited.{◌-◌, ◌≤◌, has_pending}
use Rattle.ob_waits.proofs.NumberLaws.{IsSifted}
use Rattle.ob_waits.proofs.rising_numbers.sift.Given as goal

abbrev pub invariant-loop-at : goal.invariant-loop-at
invariant-loop-at l = record {
  sifted : IsSifted (has_pending l.live) l.fn.numbers.items l.end l.at l.to l.numbers.items;
  from : l.start ≤ l.at;
  below : l.at ≤ l.to;
  within : l.to ≤ l.end;
}

abbrev pub decreases-loop-at : goal.decreases-loop-at
decreases-loop-at l = l.at - l.start
