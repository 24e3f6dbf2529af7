use Rattle.std.proofs.Common.{arith}
use Rattle.ob_script.proofs.Digits.{within_18_digits}
use Rattle.ob_script.proofs.numbers.long_of.Goals as goal

pub overflow_mul-value : goal.overflow_mul-value
overflow_mul-value c = omega (arith, within_18_digits c.loop-byte.invariant.at_most (omega arith))

pub overflow_add-value : goal.overflow_add-value
overflow_add-value c = omega (arith, within_18_digits c.loop-byte.invariant.at_most (omega arith))
