use Rattle.std.proofs.Common.{◌≡◌, drop, length, take}
use Rattle.obman_c.specs.Chains.{Chain}
use Rattle.obman_c.specs.Waiting.{TakesNext}
use Rattle.obman_c.proofs.waiting.take_answers.Given as goal

abbrev pub invariant-loop-place : goal.invariant-loop-place
invariant-loop-place l = record {
  taken : Chain TakesNext l.fn.held (take l.place l.answers) l.held;
  rest : drop l.place l.answers ≡ drop l.place l.fn.answers;
  length_is : length l.answers ≡ length l.fn.answers;
}
