-- The digits with which a text begins, and the word that they are.
use Rattle.ob_script.proofs.Cited.{◌≡◌, ◌≢◌, ℕ, ◌+◌, ◌-◌, ◌*◌, ◌<◌, ◌≤◌, List, ◌++◌, [], ◌∷◌, Option, Some, None, true, false, length, take, drop, get_or, arith, refl, IfSome, list_all, position_or_len, is_ascii_digit, nat_tests, common_steps, take_all, take_more, take_rest, list_all_at, passes_at_first, position_or_len_is, prefix_len-le-length, is_byte, labelled, number_of, value_after, value_of, words_of}
use Rattle.std.specs.Borrow.{Bor}
use Rattle.ob_script.specs.WordsLeft.{words_left}
use Rattle.ob_script.proofs.Cuts.{words_first, words_last}

-- one digit more
value_after-append : (value : ℕ) (digits : List ℕ) (digit : ℕ)
    → value_after value (digits ++ digit ∷ []) ≡ value_after value digits * 10 + (digit - 48)
value_after-append value [] digit = refl
value_after-append value (first ∷ digits) digit = value_after-append (value * 10 + (first - 48)) digits digit

pub value_more : (text : List ℕ) (i : ℕ) → i < length text
    → value_of (take (i + 1) text) ≡ value_of (take i text) * 10 + (get_or text i 0 - 48)
value_more text i within = search (arith, take_more text i 0, value_after-append)

pub digits_more : (text : List ℕ) (i : ℕ) → i < length text → list_all is_ascii_digit (take i text) ≡ true
    → is_ascii_digit (get_or text i 0) ≡ true → list_all is_ascii_digit (take (i + 1) text) ≡ true
digits_more text i within before digit = grind (arith, nat_tests, common_steps)

-- a byte that is no digit
module _ (stop : ℕ) (text : List ℕ) (n : ℕ) (other : is_ascii_digit stop ≡ false)
    (digits : list_all is_ascii_digit (take n text) ≡ true) (within : n ≤ length text) where
  among_digits : (k : ℕ) → k < n → is_byte stop (get_or text k 0) ≡ false
  among_digits k before = grind (arith, nat_tests, common_steps)

  -- where such a byte is first
  pub first_stop : (n < length text → is_byte stop (get_or text n 0) ≡ true) → position_or_len (is_byte stop) text ≡ n
  first_stop is = grind (arith, position_or_len_is (is_byte stop) text n 0, among_digits)

  -- the digits with which a text begins stand before it
  pub digits_before : n ≤ position_or_len (is_byte stop) text
  digits_before = grind (arith, passes_at_first (is_byte stop) text 0, among_digits)

-- a number behind a letter, which is no blank
pub behind_letter : (letter : ℕ) (text : List ℕ) (found : Option (ℕ × Option (Bor (List ℕ)))) → letter ≢ 32
    → 1 ≤ length text → get_or text 0 0 ≡ letter → IfSome found (λ number. (word : List ℕ)
    × (number_of word ≡ Some number.0) × (words_of (take (length text - 1) (drop 1 text)) ≡ word ∷ words_left number.1))
    → IfSome found (λ number. (word : List ℕ) × (labelled letter word ≡ Some number.0)
    × (words_of text ≡ word ∷ words_left number.1))
behind_letter letter text None dark some is word = word
behind_letter letter text (Some number) dark some is word =
    (letter ∷ word.0, grind arith, grind (arith, nat_tests, common_steps, take_rest))

-- the first word of a text ends at the first blank
pub first_word_is : (text word : List ℕ) (more : List (List ℕ)) → words_of text ≡ word ∷ more
    → word ≡ take (position_or_len (is_byte 32) text) text
first_word_is text word more words = search (arith, prefix_len-le-length, take_all, words_first, words_last)

-- a number is the last word, or the first
module _ (text : List ℕ) (n value : ℕ) (digits : list_all is_ascii_digit (take n text) ≡ true)
    (is : value_of (take n text) ≡ value) where
  pub number_last : n ≡ length text → n ≢ 0 → n ≤ 10 → value ≤ 4294967295 →
      (word : List ℕ) × (number_of word ≡ Some value) × (words_of text ≡ word ∷ [])
  number_last last some few small = (text, grind (arith, nat_tests, common_steps), search (arith, take_all, first_stop, words_last))

  pub number_first : n < length text → get_or text n 0 ≡ 32 → n ≢ 0 → n ≤ 10 → value ≤ 4294967295 →
      (word : List ℕ) × (number_of word ≡ Some value)
      × (words_of text ≡ word ∷ words_of (take (length text - (n + 1)) (drop (n + 1) text)))
  number_first within blank some few small =
      (take n text, grind (arith, nat_tests, common_steps), search (arith, first_stop, take_rest, words_first))

  module _ (within : n ≤ length text) (ends : n ≤ 10 → n < length text → is_ascii_digit (get_or text n 0) ≡ false) where
    -- the part before the first byte of a kind: the digits with which the text begins are those of the part
    pub no_digits_before : (stop : ℕ) → is_ascii_digit stop ≡ false
        → (n ≢ 0 → n ≤ 10 → value ≤ 4294967295 → (n < length text) × (is_byte stop (get_or text n 0) ≡ false))
        → number_of (take (position_or_len (is_byte stop) text) text) ≡ None
    no_digits_before stop other fails =
        let least = digits_before stop text n other digits within in
        grind (arith, nat_tests, common_steps, list_all_at, passes_at_first, least, prefix_len-le-length)

    pub no_number : (n ≢ 0 → n ≤ 10 → value ≤ 4294967295 → (n < length text) × (get_or text n 0 ≢ 32))
        → (word : List ℕ) (more : List (List ℕ)) → words_of text ≡ word ∷ more → number_of word ≡ None
    no_number fails word more words = search (arith, first_word_is, no_digits_before, nat_tests)

pub ruleset number_laws = (number_last, number_first, no_number)
