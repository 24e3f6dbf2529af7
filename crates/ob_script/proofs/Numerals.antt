-- A number is read as it was written.
use Rattle.ob_script.proofs.Cited.{nat_le, ◌≡◌, ℕ, zero, suc, ◌+◌, ◌-◌, ◌*◌, ◌/◌, ◌^◌, ◌<◌, ◌≤◌, arith, refl, List, [], ◌∷◌, length, Bool, true, false, pow-suc, Some, ℤ, decimal, digits_onto, digit_glyph, signed_decimal, digit_value, is_ascii_digit, is_ascii_hexdigit, list_all, AllDigits, IsNumeral, digits_value_after, and_from, cond_both, nat_tests, digits_is_IsNumeral, decimal_is_IsNumeral, length-decimal-le, Rights, FitsSign, number_of, value_after, signed_of, up_to, long_of, moment_of, due_of, mask_of, ◌>>=◌, mask_word}
use Rattle.std.specs.Fmt.{digits}

-- a decimal digit is its value behind the digit 0, and no other byte that has a meaning
pub digit_is : (c : ℕ) → digit_value c < 10 → (48 ≤ c) × (c ≤ 57) × (c - 48 ≡ digit_value c)
digit_is c small = search arith

-- the digits of a number pass a test that each digit of the base passes
module _ (test : ℕ → Bool) (base : ℕ) (positive : 0 < base)
    (each : (d : ℕ) → d < base → test (digit_glyph false d) ≡ true) where
  onto_pass : (k n : ℕ) (acc : List ℕ) → list_all test acc ≡ true
      → list_all test (digits_onto k base false n acc) ≡ true
  onto_pass zero n acc pass = pass
  onto_pass (suc k) n acc pass = search (arith, and_from, cond_both, onto_pass k)

  pub digits_pass : (n : ℕ) → list_all test (digits base false n) ≡ true
  unfolding digits
  digits_pass n = onto_pass 64 n [] refl

value_same : (n : ℕ) (ds : List ℕ) → AllDigits 10 ds → value_after n ds ≡ digits_value_after 10 n ds
value_same n [] all = refl
value_same n (c ∷ cs) all = grind (arith, digit_is, value_same (n * 10 + digit_value c) cs)

pub are_digits : (n : ℕ) → list_all is_ascii_digit (decimal n) ≡ true
are_digits n = search (arith, digits_pass)

pub reads_number : (n : ℕ) → n ≤ 4294967295 → number_of (decimal n) ≡ Some n
reads_number n fits = grind (arith, nat_tests, length-decimal-le 10 n, are_digits n, decimal_is_IsNumeral n, value_same 0 (decimal n))

reads_long : (n : ℕ) → n ≤ 9223372036854775808 → long_of (decimal n) ≡ Some n
reads_long n fits = grind (arith, nat_tests, length-decimal-le 19 n, are_digits n, decimal_is_IsNumeral n, value_same 0 (decimal n))

pub reads_moment : (n : ℕ) → nat_le n 9223372036854775807 ≡ true → moment_of (decimal n) ≡ Some n
reads_moment n fits = grind (arith, nat_tests, reads_long n)

-- a digit is no minus, so a text of digits is read as a number that isn't negative
signed_digits : (ds : List ℕ) → IsNumeral 10 ds → signed_of ds ≡ (number_of ds >>= up_to 2147483647)
signed_digits ds is = search (arith, digit_is)

due_digits : (ds : List ℕ) → IsNumeral 10 ds → due_of ds ≡ (long_of ds >>= up_to 9223372036854775807)
due_digits ds is = search (arith, digit_is)

pub reads_signed : (z : ℤ) → FitsSign 2147483648 z → signed_of (signed_decimal z) ≡ Some z
reads_signed z fits = search (arith, reads_number, signed_digits, decimal_is_IsNumeral)

pub reads_due : (z : ℤ) → FitsSign 9223372036854775808 z → due_of (signed_decimal z) ≡ Some z
reads_due z fits = search (arith, reads_long, due_digits, decimal_is_IsNumeral)

-- the digits of n < 16 ^ j are at most j
hex_length : (k j n : ℕ) (acc : List ℕ) → n < 16 ^ suc j → length (digits_onto k 16 false n acc) ≤ suc j + length acc
hex_length zero j n acc fits = omega arith
hex_length (suc k) j n acc fits =
    grind (arith, nat_tests, pow-suc 16 j, pow-suc 16 (j - 1), hex_length k (j - 1) (n / 16))

pub hex_few : (n : ℕ) → n ≤ 4294967295 → length (digits 16 false n) ≤ 8
unfolding digits
hex_few n fits = omega (arith, hex_length 64 7 n [] (omega arith))

pub reads_mask : (mask : Rights) → mask.0 ≤ 4294967295 → mask_of (mask_word mask) ≡ Some mask
reads_mask mask fits = grind (arith, nat_tests, digits_is_IsNumeral 16 false, digits_pass is_ascii_hexdigit 16, hex_few)
