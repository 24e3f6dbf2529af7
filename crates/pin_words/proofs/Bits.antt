-- The parts of a packed word, and the bits that the keeper sets.
use Rattle.pin_words.proofs.Cited.{◌≡◌, ℕ, ◌+◌, ◌-◌, ◌*◌, ◌%◌, ◌^◌, ◌<◌, refl, ◌∙◌, arith, subst, bit_or, packed, Id, decoded, verdict_of}
use Rattle.std.specs.Prelude.{◌/◌, ◌≤◌, ◌↔◌}
use Rattle.std.proofs.lemmas.Bool.Decides.{nat_tests}
use Rattle.pin_words.specs.declared.fault.Verdict.TheVariants.{Go}
use Rattle.std.proofs.lemmas.Nat.{or_block}
use Rattle.std.specs.Int.Bits.{or_zero_r}

or_low : (g c d r : ℕ) → c < 4 → d < 4 → bit_or c d ≡ r → bit_or (g * 4 + c) d ≡ g * 4 + r
or_low g c d r hc hd e = let f : bit_or (g * 2 ^ 2 + c) (0 * 2 ^ 2 + d) ≡ bit_or g 0 * 2 ^ 2 + bit_or c d =
    or_block 2 g 0 c d hc hd in
    let z : 0 * 4 + d ≡ d = omega arith in subst (λ (x : ℕ). bit_or (g * 4 + c) x ≡ g * 4 + r) z (f
    ∙ λ k. or_zero_r g k * 4 + e k)

-- Free becomes Live
pub publish-or : (g n : ℕ) → n < 1073741824 → bit_or (packed g 0 n) 1073741824 ≡ packed g 1 n
publish-or g n h = let e : bit_or ((g * 4 + 0) * 2 ^ 30 + n) (1 * 2 ^ 30 + 0) ≡ bit_or (g * 4 + 0) 1 * 2 ^ 30
    + bit_or n 0 = search (arith, or_block) in
    e ∙ λ k. or_low g 0 1 1 (omega arith) (omega arith) refl k * 1073741824 + or_zero_r n k

-- Live becomes Closing
pub close-or : (g n : ℕ) → n < 1073741824 → bit_or (packed g 1 n) 2147483648 ≡ packed g 3 n
close-or g n h = let e : bit_or ((g * 4 + 1) * 2 ^ 30 + n) (2 * 2 ^ 30 + 0) ≡ bit_or (g * 4 + 1) 2 * 2 ^ 30
    + bit_or n 0 = search (arith, or_block) in
    e ∙ λ k. or_low g 1 2 3 (omega arith) (omega arith) refl k * 1073741824 + or_zero_r n k

-- one pin less
pub sub_one : (n : ℕ) → 0 < n → n < 18446744073709551616 → (n + (2 ^ 64 - 1)) % 2 ^ 64 ≡ n - 1
sub_one n h l = omega arith

-- a word is past the least one that may be pinned by fewer than the most pins, where it may be pinned
module _ (max : ℕ) (id : Id) (n : ℕ) (small : max < 1073741824) (fits : n < 2 ^ 64) (short : id.generation < 2 ^ 32) where
  abbrev past : ℕ
  past = (n + (2 ^ 64 - (id.generation * 4294967296 + 1073741824))) % 2 ^ 64

  parts : past < max
      → (n / 4294967296 ≡ id.generation) × (n / 1073741824 % 4 ≡ 1) × (n % 1073741824 < max)
  parts near = (omega arith, omega arith, omega arith)

  near : n / 4294967296 ≡ id.generation → n / 1073741824 % 4 ≡ 1 → n % 1073741824 < max → past < max
  near generation live few = omega arith

  pub free_pin : (decoded n).pins ≤ max → (past < max) ↔ (verdict_of max id (decoded n) ≡ Go)
  free_pin room = (
    λ close. let facts = parts close in grind (arith, nat_tests, facts),
    λ go. near (grind (arith, nat_tests)) (grind (arith, nat_tests)) (grind (arith, nat_tests)),
  )
