-- The value of digits.
use Rattle.ob_script.proofs.Cited.{ℕ, ◌+◌, ◌*◌, ◌^◌, ◌<◌, arith, pow-le-pow_right, pow_more}

-- at most nineteen digits fit 64 bits
pub one_more_digit : (value digit i : ℕ) → value < 10 ^ i → digit < 10 → value * 10 + digit < 10 ^ (i + 1)
one_more_digit value digit i small digit_small = omega (arith, pow_more 10 i)

-- before the last of them there is room for one more
pub within_18_digits : {value i : ℕ} → value < 10 ^ i → i < 19 → value < 1000000000000000000
within_18_digits small few = search (arith, pow-le-pow_right)
