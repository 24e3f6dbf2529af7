use Rattle.std.proofs.Common.{arith}
use Rattle.ob_script.proofs.Hex.{within_32_bits}
use Rattle.ob_script.proofs.rights.hex_of.Goals as goal

pub overflow_mul-value : goal.overflow_mul-value
overflow_mul-value c = omega (arith, within_32_bits c.loop-byte.invariant.at_most (omega arith))

pub overflow_add-value : goal.overflow_add-value
overflow_add-value c = omega (arith, within_32_bits c.loop-byte.invariant.at_most (omega arith), c.in_ok-digit.ensures.value.1)

pub overflow_cast-result : goal.overflow_cast-result
overflow_cast-result c = omega (arith, within_32_bits c.loop-byte.invariant.at_most (omega arith))
