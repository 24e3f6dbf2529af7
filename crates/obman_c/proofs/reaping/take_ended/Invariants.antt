use Rattle.std.proofs.Common.{◌≡◌, drop, length, take}
use Rattle.obman_c.specs.Chains.{Chain}
use Rattle.obman_c.specs.Reaping.{ReapsNext}
use Rattle.obman_c.proofs.reaping.take_ended.Given as goal

abbrev pub invariant-loop-place : goal.invariant-loop-place
invariant-loop-place l = record {
  reaped : Chain ReapsNext (0, l.fn.held) (take l.place l.reapings) (l.from, l.held);
  rest : drop l.place l.reapings ≡ drop l.place l.fn.reapings;
  length_is : length l.reapings ≡ length l.fn.reapings;
}
