-- The first word of a line is that of its text, unless the text is shorter.
use Rattle.ob_script.proofs.Cited.{◌≡◌, ℕ, zero, suc, ◌+◌, ◌-◌, ◌<◌, ◌≤◌, List, [], ◌∷◌, length, take, drop, Bool, min, arith, position_or_len, common_steps, is_byte, text_of, words_of}
use Rattle.ob_script.proofs.Cuts.{words_first, words_last}

-- the first place of a front is that of the whole, or its end
place_of_front : (p : ℕ → Bool) (n : ℕ) (xs : List ℕ) → position_or_len p (take n xs) ≡ min n (position_or_len p xs)
place_of_front p zero xs = omega arith
place_of_front p (suc n) xs = search (arith, place_of_front p n)

module _ (line : List ℕ) where
  pub first_word : (word : ℕ) → position_or_len (is_byte 32) line ≡ word → word < length (text_of line)
      → words_of (text_of line) ≡ take word (text_of line)
      ∷ words_of (take (length (text_of line) - (word + 1)) (drop (word + 1) (text_of line)))
  first_word word is within = grind (arith, common_steps, place_of_front, words_first)

  pub only_word : (word : ℕ) → position_or_len (is_byte 32) line ≡ word → length (text_of line) ≤ word
      → words_of (text_of line) ≡ text_of line ∷ []
  only_word word is past = grind (arith, common_steps, place_of_front, words_last)
