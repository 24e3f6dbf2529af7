-- The shortest numbers.
use Rattle.ob_script.proofs.Cited.{◌≡◌, ℕ, ◌/◌, ◌%◌, ◌<◌, ◌≤◌, List, ◌++◌, append_assoc, arith, decimal, decimal_digit, decimal_step}

-- from ten on a number is the digits of the quotient, and one more
pub one_more_digit : (n : ℕ) (old before new : List ℕ) → 10 ≤ n → n < 1000 → before ≡ old ++ decimal (n / 10)
    → new ≡ before ++ decimal (n % 10) → new ≡ old ++ decimal n
one_more_digit n old before new large small front last = search (arith, append_assoc, decimal_step, decimal_digit)
