-- Where a byte is first found, in the words of lists.
use Rattle.ob_script.proofs.Cited.{common_steps, ◌≡◌, ◌≢◌, Option, ℕ, ◌+◌, ◌-◌, ◌<◌, List, [], ◌∷◌, length, take, drop, Some, None, arith, ap, MatchOption, position_or_len, before_first, after_first, take_rest, position_or_len_is, fails_before_first, IsFirstByte, is_byte, words_of, joined}
use Rattle.std.specs.Borrow.{Bor}
use Rattle.std.proofs.lemmas.List.Splits.{slice_split_first, slice_split_none, length-slice_split, join_with_byte-slice_split}
use Rattle.ob_script.specs.WordsLeft.{words_left}

-- the place that is found is the first
pub first_place : (byte : ℕ) (text : List ℕ) (at : ℕ) → IsFirstByte (is_byte byte) text (Some at)
    → (position_or_len (is_byte byte) text ≡ at) × (at < length text)
first_place byte text at found = search (arith, position_or_len_is)

-- where none is found, the first place is the length
pub no_place : (byte : ℕ) (text : List ℕ) → IsFirstByte (is_byte byte) text None
    → position_or_len (is_byte byte) text ≡ length text
no_place byte text none = grind (arith, position_or_len_is (is_byte byte) text (length text) 0)

-- what is behind the first place
pub behind_first : (byte : ℕ) (text rest : List ℕ) (at : ℕ) → IsFirstByte (is_byte byte) text (Some at)
    → rest ≡ drop at text → take (length rest - 1) (drop 1 rest) ≡ after_first (is_byte byte) text
behind_first byte text rest at found rest_is = grind (arith, common_steps, first_place byte text at found)

-- the first word ends at the first space, or is the last
pub words_first : (text : List ℕ) → position_or_len (is_byte 32) text < length text
    → words_of text ≡ before_first (is_byte 32) text ∷ words_of (after_first (is_byte 32) text)
words_first text within = slice_split_first (is_byte 32) text 0 within

pub words_last : (text : List ℕ) → position_or_len (is_byte 32) text ≡ length text → words_of text ≡ text ∷ []
words_last text none = search (arith, fails_before_first, slice_split_none)

-- the same by the place that was found
pub first_word : (text : List ℕ) (at : ℕ) → IsFirstByte (is_byte 32) text (Some at)
    → words_of text ≡ take at text ∷ words_of (take (length text - (at + 1)) (drop (at + 1) text))
first_word text at found = search (arith, first_place, words_first, take_rest)

pub last_word : (text : List ℕ) → IsFirstByte (is_byte 32) text None → words_of text ≡ text ∷ []
last_word text none = words_last text (no_place 32 text none)

-- a text has a word
pub words_some : (text : List ℕ) → words_of text ≡ [] → ⊥
words_some text none = omega (arith, length-slice_split (is_byte 32) text, ap length none)

-- words, joined again, are their text
pub words_joined : (text : List ℕ) → joined (words_of text) ≡ text
words_joined text = join_with_byte-slice_split 32 text

-- what is left of a text
pub text_left : (rest : Option (Bor (List ℕ))) (words : List (List ℕ)) → words_left rest ≡ words
    → MatchOption rest (words ≡ []) (λ text. (text.now ≡ joined words) × (words ≢ []))
text_left rest words is = search (arith, words_some, words_joined)
