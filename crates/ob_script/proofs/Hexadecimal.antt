-- Hexadecimal digits, one behind those of the quotient.
use Rattle.ob_script.proofs.Cited.{◌≡◌, ℕ, zero, suc, ◌-◌, ◌/◌, ◌%◌, ◌^◌, ◌<◌, ◌≤◌, false, List, [], ◌∷◌, ◌++◌, ◌∙◌, arith, pow-suc, ne_eqb, nat_tests, digit_glyph, digits_onto}
use Rattle.std.specs.Fmt.{digits}

-- a quotient has one digit less
pub fits : (n most : ℕ) → n < 16 ^ most → 16 ≤ n → 0 < most → (n / 16 < 16 ^ (most - 1)) × (0 < most - 1)
fits n most small large some = grind (arith, pow-suc 16 (most - 1), pow-suc 16 (most - 2))

-- what comes behind is kept, and room for more digits than there are changes nothing
onto_more : (k n : ℕ) (front back : List ℕ) → n < 16 ^ suc k
    → digits_onto (suc k) 16 false n (front ++ back) ≡ digits_onto (suc (suc k)) 16 false n front ++ back
onto_more zero n front back small = grind (arith, nat_tests, pow-suc 16 0)
onto_more (suc k) n front back small = search (arith, pow-suc 16 (suc k), onto_more k)

onto_step : (k n : ℕ) → 0 < n / 16
    → digits_onto (suc k) 16 false n [] ≡ digits_onto k 16 false (n / 16) (digit_glyph false (n % 16) ∷ [])
onto_step k n large = search (arith, ne_eqb)

pub step : (n : ℕ) → 16 ≤ n → n < 2 ^ 32
    → digits 16 false n ≡ digits 16 false (n / 16) ++ digit_glyph false (n % 16) ∷ []
unfolding digits
step n large small =
    onto_step 63 n (omega arith) ∙ onto_more 62 (n / 16) [] (digit_glyph false (n % 16) ∷ []) (omega arith)
