use Rattle.std.proofs.Common.{arith, rules}
use Rattle.ob_script.proofs.Digits.{one_more_digit, within_18_digits}
use Rattle.ob_script.proofs.Leading.{digits_more, value_more}
use Rattle.ob_script.proofs.numbers.leading_digits.Goals as goal

pub overflow_mul-value : goal.overflow_mul-value
overflow_mul-value c = omega (arith, within_18_digits c.loop-count.invariant.at_most (omega arith))

pub overflow_add-value : goal.overflow_add-value
overflow_add-value c = omega (arith, within_18_digits c.loop-count.invariant.at_most (omega arith))

pub loop-count-preserved : goal.loop-count-preserved
loop-count-preserved c = let is = c.loop-count.invariant in record {
  digits = search (arith, digits_more, is.digits);
  value = search (arith, value_more, is.value);
  at_most = one_more_digit c.loop-count.value c.from.result c.loop-count.count is.at_most (search rules);
}
