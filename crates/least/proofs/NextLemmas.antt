-- The next number that passes a test: in a word, in a level below another, and in a set with a spare.
use Rattle.std.proofs.lemmas.Bool.Decides.{nat_tests}
use Rattle.std.proofs.Common.{◌≡◌, ℕ, ◌+◌, ◌-◌, ◌*◌, ◌/◌, ◌^◌, ◌<◌, ◌≤◌, List, arith, Bool, true, false, Option, Some, None, ltb}
use Rattle.std.specs.Prelude.{IfSome, ◌==◌, ◌&&◌}
use Rattle.std.specs.Int.{bit_at, bit_not}
use mir.Syntax.{w64}
use Rattle.std.proofs.Math.Nat.{div-div-eq-div-mul}
use Rattle.std.proofs.lemmas.Nat.{pow-add}
use Rattle.std.proofs.lemmas.Nat.Bits.{bit_at_not}
use Rattle.std.proofs.lemmas.List.{get_or_past}
use Rattle.least.specs.Bits.{bit}
use Rattle.least.specs.From.{IsAtMost, IsLeastFrom}
use Rattle.least.specs.Levels.{taken_in, SumsUp}
use Rattle.least.specs.Taken.{is_free_within, is_taken}
use Rattle.least.proofs.LevelLemmas.{get_or-taken_in, length_taken_in}

-- a number that passes, and none before it does
pub first_found : (test : ℕ → Bool) (from n : ℕ) → from ≤ n → test n ≡ true
    → ((k : ℕ) → from ≤ k → k < n → test k ≡ false) → IsLeastFrom from test (Some n)
first_found test from n above here none = search arith

pub none_found : (test : ℕ → Bool) (from : ℕ) → ((k : ℕ) → from ≤ k → test k ≡ false) → IsLeastFrom from test None
none_found test from none = search arith

-- another test that says the same
pub same_test : (f g : ℕ → Bool) (from : ℕ) (r : Option ℕ) → ((k : ℕ) → f k ≡ g k) → IsLeastFrom from f r
    → IsLeastFrom from g r
same_test f g from r same is = search arith

-- the bits of a word that is shifted
pub bit_at_shifted : (n k i : ℕ) → bit_at (n / 2 ^ k) i ≡ bit_at n (k + i)
bit_at_shifted n k i = search (arith, div-div-eq-div-mul, pow-add)

-- and from there on
pub bit_at_from : (n k i : ℕ) → k ≤ i → bit_at n i ≡ bit_at (n / 2 ^ k) (i - k)
bit_at_from n k i le = search (arith, bit_at_shifted)

-- the rest of the word has a bit
pub in_word : (lo : List ℕ) (from n : ℕ) → bit lo n ≡ 1 → from ≤ n → n < 64 * (from / 64 + 1)
    → ((k : ℕ) → from ≤ k → k < 64 * (from / 64 + 1) → bit lo k ≡ 1 → n ≤ k)
    → IsLeastFrom from (λ k. bit lo k == 1) (Some n)
in_word lo from n here above within least = grind arith

-- it has none, and the level above leads on
module _ (bits : ℕ → ℕ) (lo : List ℕ) (from : ℕ) (sums : SumsUp bits lo) (none : (k : ℕ) → from ≤ k
    → k < 64 * (from / 64 + 1) → bit lo k ≡ 1 → ⊥) where
  pub in_next_word : (w n : ℕ) → IsLeastFrom (from / 64 + 1) (λ j. bits j == 1) (Some w) → n / 64 ≡ w → bit lo n ≡ 1
      → ((k : ℕ) → 64 * w ≤ k → k < n → bit lo k ≡ 0) → IsLeastFrom from (λ k. bit lo k == 1) (Some n)
  in_next_word w n up in_it here below = grind arith

  pub in_no_word : IsLeastFrom (from / 64 + 1) (λ j. bits j == 1) None → IsLeastFrom from (λ k. bit lo k == 1) None
  in_no_word up = grind arith

-- the free numbers are those with a bit
pub free_test : (ws : List ℕ) (n k : ℕ) → ((j : ℕ) → n ≤ j → bit ws j ≡ 0)
    → (bit ws k == 1) ≡ is_free_within (taken_in ws n) k
free_test ws n k none_past = search (arith, get_or-taken_in, get_or_past, length_taken_in)

-- the lowest bit that is clear is the lowest that is set in the word turned round
module _ (word k : ℕ) (r : Option ℕ) (fits : word < 2 ^ 64)
    (is : IsLeastFrom k (λ i. bit_at (bit_not w64 word) i == 1) r) where
  pub clear_found : IfSome r (λ i. i < 64) → IfSome r (λ i. bit_at word i ≡ 0)
  clear_found within = grind (arith, nat_tests, bit_at_not w64 word, fits)

  pub clear_least : (i : ℕ) → k ≤ i → i < 64 → bit_at word i ≡ 0 → IsAtMost r i
  clear_least i above within clear = grind (arith, nat_tests, bit_at_not w64 word, fits, is.least i)

-- the numbers that are taken are those below the length whose bit is clear
pub taken_test : (ws : List ℕ) (n k : ℕ) → ltb k n && (bit ws k == 0) ≡ is_taken (taken_in ws n) k
taken_test ws n k = search (arith, get_or-taken_in, get_or_past, length_taken_in)
