use Rattle.std.proofs.Common.{◌≡◌, length}
use Rattle.lower_tests.proofs.tests.numbers.grows_to.Given as goal

abbrev pub invariant-loop-n : goal.invariant-loop-n
invariant-loop-n g l = length l.free ≡ l.n
