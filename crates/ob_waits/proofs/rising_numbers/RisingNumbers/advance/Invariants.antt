use Rattle.ob_waits.proofs.Cited.{◌-◌, ◌≤◌, drop, length, Thins}
use Rattle.ob_waits.proofs.rising_numbers.RisingNumbers.advance.Given as goal

abbrev pub invariant-loop-self : goal.invariant-loop-self
invariant-loop-self l = record {
  thins : Thins l.live l.fn.self (drop l.self-inside.start l.self-inside.numbers.items);
  within : l.self-inside.start ≤ length l.self-inside.numbers.items;
}

abbrev pub decreases-loop-self : goal.decreases-loop-self
decreases-loop-self l = length l.self-inside.numbers.items - l.self-inside.start
