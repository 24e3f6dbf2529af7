-- What marks on the first bytes of a text say of it.
use Rattle.ob_script.proofs.Cited.{length-take-le, nat_tests, ◌≡◌, ℕ, ◌<◌, ◌≤◌, ◌%◌, ◌^◌, List, true, false, length, take, get_or, map, replicate, cond, eqb, arith, w8, w64, bit_or, position_or_len, get_or-map, get_or_past, get_or-take, length-map, position_or_len_is, is_byte}
use Rattle.std.specs.Int.{bit_at, trailing_zeros}
use Rattle.std.specs.Simd.Lanes.{mask_l, top, zip2, chunk}
use Rattle.std.proofs.lemmas.Nat.{or_lt}
use Rattle.std.proofs.lemmas.Nat.Bits.{bit_at-trailing_zeros, bit_at_or}
use Rattle.std.proofs.lemmas.Simd.{bitmask_splat, bit_mask_l, get_or-chunk}
use Rattle.ob_script.specs.Marks.{Marks}

-- a bit for each lane
pub marks_compared : (byte : ℕ) (bytes : List ℕ) → length bytes ≡ 32
    → Marks (is_byte byte) bytes 32 (mask_l (map (top 7) (zip2 (λ a b. cond (eqb a b) 255 0) bytes (replicate 32 byte)))
    % 2 ^ 64)
marks_compared byte bytes long =
    rw (bitmask_splat w8 eqb bytes 32 byte long (omega arith)) (record {
      each = search (arith, bit_mask_l, get_or-map);
      within = grind (arith, nat_tests, bit_mask_l, get_or_past, length-map);
    })

module _ (text : List ℕ) (long : 32 ≤ length text) where
  from_front : (k : ℕ) → k < 32 → get_or (chunk 0 32 text) k 0 ≡ get_or text k 0
  from_front k within = grind (arith, get_or-chunk 0 32 text k 0)

  set_is : (byte marks k : ℕ) → Marks (is_byte byte) (chunk 0 32 text) 32 marks → bit_at marks k ≡ 1
      → is_byte byte (get_or text k 0) ≡ true
  set_is byte marks k are set = search (arith, from_front)

  clear_is : (byte marks k : ℕ) → Marks (is_byte byte) (chunk 0 32 text) 32 marks → k < 32 → bit_at marks k ≡ 0
      → is_byte byte (get_or text k 0) ≡ false
  clear_is byte marks k are within clear = search (arith, from_front)

  module _ (feeds : ℕ) (fits : feeds < 2 ^ 64) (some : 0 < feeds)
      (are_feeds : Marks (is_byte 10) (chunk 0 32 text) 32 feeds) where
    lowest : (trailing_zeros w64 feeds < 64) × (bit_at feeds (trailing_zeros w64 feeds) ≡ 1)
        × ((k : ℕ) → k < trailing_zeros w64 feeds → bit_at feeds k ≡ 0)
    lowest = bit_at-trailing_zeros w64 feeds some fits

    near : trailing_zeros w64 feeds < 32
    near = search (arith, lowest.1)

    pub line_within : trailing_zeros w64 feeds < length text
    line_within = omega (arith, near)

    -- the lowest bit is the first line feed
    pub line_ends : position_or_len (is_byte 10) text ≡ trailing_zeros w64 feeds
    line_ends =
        let is = position_or_len_is (is_byte 10) text (trailing_zeros w64 feeds) 0 in
        grind (arith, is, clear_is 10 feeds, set_is 10 feeds, lowest, line_within, near)

    module _ (blanks : ℕ) (blanks_fit : blanks < 2 ^ 64)
        (are_blanks : Marks (is_byte 32) (chunk 0 32 text) 32 blanks) where
      -- the lowest bit of both is the first blank of the line, or its end
      pub word_ends : position_or_len (is_byte 32) (take (trailing_zeros w64 feeds) text)
          ≡ trailing_zeros w64 (bit_or blanks feeds)
      word_ends =
          let fit = or_lt 64 blanks feeds blanks_fit fits in
          let both = bit_at_or blanks feeds in
          let first = bit_at-trailing_zeros w64 (bit_or blanks feeds) in
          let is = position_or_len_is (is_byte 32) (take (trailing_zeros w64 feeds) text) (trailing_zeros w64 (bit_or blanks feeds)) 0 in
          grind (arith, near, lowest, both, first, get_or-take, length-take-le, clear_is 32 blanks, set_is 32 blanks, is)

-- where a line and its first word end
pub ruleset near_laws = (line_within, line_ends, word_ends)
