-- A call whose name and handles are few enough has a line.
use Rattle.ob_script.proofs.Cited.{◌≡◌, ℕ, ◌+◌, ◌*◌, ◌<◌, ◌≤◌, arith, refl, List, [], ◌∷◌, ◌++◌, length, Bool, true, false, not, ◌&&◌, ◌==◌, Option, None, decimal, map, codes, if◌then◌else◌, ℤ, length-append, digits, signed_decimal, list_all, nat_le, nat_tests, length-decimal-le, list_all-append, Id, Kind, Rights, Timeout, Making, Call, joined, FitsKind, FitsMake, FitsMask, FitsSign, FitsTarget, FitsTimeout, FitHandles, label, id_word, mask_word, either_word, word_if, mask_words, name_words, make_words, kind_word, mode_word, timeout_word, target_word, words_for, can_be_said, line_of}
use Rattle.ob_waits.specs.declared.wait.Mode.{Mode}
use Rattle.ob_script.proofs.Numerals.{digits_pass, hex_few}

-- a byte that is no line feed
abbrev pub no_feed : ℕ → Bool
no_feed byte = not (byte == 10)

-- a word of at most so many bytes, without a line feed
pub record IsShort (most : ℕ) (word : List ℕ) : Type 0 where
  pub len : length word ≤ most
  pub within : list_all no_feed word ≡ true

-- the same as a test, for keywords
abbrev is_known : List ℕ → Bool
is_known word = nat_le (length word) 22 && list_all no_feed word

-- each of these is
abbrev pub AreShort : ℕ → List (List ℕ) → Type 0
AreShort most [] = Unit {0}
AreShort most (word ∷ words) = IsShort most word × AreShort most words

joined_within : (most : ℕ) (words : List (List ℕ)) → AreShort most words → list_all no_feed (joined words) ≡ true
joined_within most [] are = refl
joined_within most (word ∷ words) are = search (arith, list_all-append, joined_within most words)

joined_len : (most : ℕ) (words : List (List ℕ)) → AreShort most words
    → length (joined words) ≤ (most + 1) * length words
joined_len most [] are = omega arith
joined_len most (word ∷ words) are = grind (arith, length-append, joined_len most words)

-- few short words are a line
pub have_line : (most : ℕ) (call : Call) → can_be_said call ≡ true → AreShort most (words_for call)
    → (most + 1) * length (words_for call) ≤ 4096 → line_of call ≡ None → ⊥
have_line most call can are few none = search (arith, joined_within, joined_len)

-- digits are short, and no line feed
pub digits_within : (base n : ℕ) → 0 < base → list_all no_feed (digits base false n) ≡ true
digits_within base n positive = search (arith, digits_pass)

few_digits : (n : ℕ) → n ≤ 4294967295 → length (decimal n) ≤ 10
few_digits n fits = search (arith, length-decimal-le)

most_digits : (n : ℕ) → n ≤ 9223372036854775808 → length (decimal n) ≤ 19
most_digits n fits = search (arith, length-decimal-le)

module _ (most : ℕ) (room : 22 ≤ most) where
  pub number_short : (n : ℕ) → n ≤ 9223372036854775807 → IsShort most (decimal n)
  number_short n fits = search (arith, most_digits, digits_within)

  pub label_short : (letter n : ℕ) → no_feed letter ≡ true → n ≤ 4294967295 → IsShort most (label letter n)
  label_short letter n is fits = search (arith, few_digits, digits_within)

  pub type_short : (object_type : ℕ) → object_type ≤ 255 → IsShort most (label 107 object_type)
  type_short object_type fits = search (arith, few_digits, digits_within)

  pub id_short : (id : Id) → id.slot ≤ 4294967295 → id.generation ≤ 4294967295 → IsShort most (id_word id)
  id_short id slot_fits generation_fits = search (arith, few_digits, digits_within, length-append, list_all-append)

  pub due_short : (due : ℤ) → FitsSign 9223372036854775808 due → IsShort most (signed_decimal due)
  due_short due fits = search (arith, most_digits, digits_within)

  pub signed_short : (z : ℤ) → FitsSign 2147483648 z → IsShort most (signed_decimal z)
  signed_short z fits = search (arith, most_digits, digits_within)

  pub mask_short : (mask : Rights) → mask.0 ≤ 4294967295 → IsShort most (mask_word mask)
  mask_short mask fits = search (arith, digits_within, hex_few)

  pub either_short : (first second : List ℕ) (is_so : Bool) → is_known first ≡ true → is_known second ≡ true
      → IsShort most (either_word first second is_so)
  either_short first second is_so first_is second_is = search (arith, nat_tests)

  pub kind_short : (kind : Kind) → FitsKind kind → IsShort most (kind_word kind)
  kind_short kind fits = search (arith, few_digits, digits_within)

  pub mode_short : (mode : Mode) → IsShort most (mode_word mode)
  mode_short mode = search arith

  pub timeout_short : (timeout : Timeout) → FitsTimeout timeout → IsShort most (timeout_word timeout)
  timeout_short timeout fits = search (arith, few_digits, most_digits, digits_within)

  pub target_short : (target : Option ℕ) → FitsTarget target → IsShort most (target_word target)
  target_short target fits = search (arith, few_digits, digits_within)

  pub access_short : (same : Bool) (mask : Rights) → mask.0 ≤ 4294967295
      → IsShort most (if same then codes "same" else mask_word mask)
  access_short true mask fits = search arith
  access_short false mask fits = mask_short mask fits

  pub handles_short : (handles : List ℕ) → FitHandles handles → AreShort most (map (label 104) handles)
  handles_short [] fit = tt
  handles_short (handle ∷ handles) fit = search (arith, label_short, handles_short handles)

  pub if_short : (is_so : Bool) (word : List ℕ) → is_known word ≡ true → AreShort most (word_if is_so word)
  if_short is_so word is = search (arith, nat_tests)

  pub append_short : (front back : List (List ℕ)) → AreShort most front → AreShort most back
      → AreShort most (front ++ back)
  append_short [] back front_are back_are = back_are
  append_short (word ∷ front) back front_are back_are = search (arith, append_short front)

  masks_short : (keyword : List ℕ) (mask : Option Rights) → IsShort most keyword → FitsMask mask
      → AreShort most (mask_words keyword mask)
  masks_short keyword mask is fits = search (arith, mask_short)

  -- what a create asks for, where its name is short
  pub make_short : (make : Making) → FitsMake make → AreShort most (name_words make.name)
      → AreShort most (make_words make)
  make_short make fits named = search (arith, append_short, if_short, masks_short)

pub least : 22 ≤ 22
least = omega arith

pub wide : 22 ≤ 260
wide = omega arith

-- the words of a call: numbers, and others
pub ruleset numbers_short = (least, wide, number_short, label_short, type_short, id_short, due_short, signed_short)

pub ruleset keywords_short = (either_short, kind_short, mode_short, if_short, append_short)

pub ruleset words_short = (numbers_short, keywords_short, mask_short, timeout_short, target_short, access_short)

-- how many words a create has at most
pub make_few : (make : Making) → length (make_words make) ≤ 7
make_few make = search arith
