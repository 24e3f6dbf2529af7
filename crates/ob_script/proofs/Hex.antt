-- The value of hexadecimal digits.
use Rattle.ob_script.proofs.Cited.{ℕ, ◌+◌, ◌*◌, ◌^◌, ◌<◌, ◌≤◌, arith, pow-le-pow_right, pow_more}

pub one_more_fits : (value digit i : ℕ) → value < 16 ^ i → digit < 16 → value * 16 + digit < 16 ^ (i + 1)
one_more_fits value digit i small digit_small = omega (arith, pow_more 16 i)

-- at most eight digits fit 32 bits
pub within_32_bits : {value i : ℕ} → value < 16 ^ i → i ≤ 8 → value < 4294967296
within_32_bits small few = search (arith, pow-le-pow_right)
