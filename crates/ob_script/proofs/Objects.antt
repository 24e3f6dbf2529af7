-- The object with which a text begins.
use Rattle.ob_script.proofs.Cited.{take_rest, ◌-◌, ◌≡◌, ◌≢◌, ℕ, suc, ◌+◌, ◌<◌, ◌≤◌, List, ◌++◌, [], ◌∷◌, Option, Some, None, true, false, length, take, drop, get_or, arith, refl, not, list_all, position_or_len, is_ascii_digit, nat_tests, common_steps, prefix_len-le-length, is_byte, Id, id_of, number_of, value_of, words_of, ◌>>=◌}
use Rattle.std.proofs.Math.Seq.{take-append_seam, drop-append-add}
use Rattle.ob_script.proofs.Cuts.{words_some}
use Rattle.ob_script.proofs.Leading.{digits_before, first_stop, first_word_is, no_digits_before}

-- the object that two numbers are
abbrev pub object : Option ℕ → Option ℕ → Option Id
object slot generation = do
  slot ← slot
  generation ← generation
  Some (record { slot = slot; generation = generation })

-- an object by the place of its full stop
id_at : (text : List ℕ) (n : ℕ) → position_or_len (is_byte 46) text ≡ n
    → id_of (115 ∷ text) ≡ object (number_of (take n text)) (number_of (drop (n + 1) text))
id_at text n at = let front : 1 + position_or_len (is_byte 46) text ≡ suc n = omega arith in grind (arith, common_steps)

-- digits before a full stop, and what stands behind it
pub id_parts : (digits word : List ℕ) → list_all is_ascii_digit digits ≡ true
    → id_of (115 ∷ (digits ++ 46 ∷ word)) ≡ object (number_of digits) (number_of word)
id_parts digits word all =
    let at : position_or_len (is_byte 46) (digits ++ 46 ∷ word) ≡ length digits = first_stop 46 (digits ++ 46 ∷ word)
    (length digits) refl (grind (arith, common_steps)) (grind (arith, common_steps)) (grind (arith, nat_tests, common_steps)) in
    rw (id_at (digits ++ 46 ∷ word) (length digits) at, take-append_seam, drop-append-add) refl

-- words behind digits
digits_led : (digits text word : List ℕ) (more : List (List ℕ)) → list_all is_ascii_digit digits ≡ true
    → words_of text ≡ word ∷ more → words_of (digits ++ text) ≡ (digits ++ word) ∷ more
digits_led [] text word more all words = words
digits_led (digit ∷ digits) text word more all words = grind (arith, nat_tests, digits_led digits text word more)

-- behind the letter is no number with a full stop
no_slot_in : (word : List ℕ) (n slot : ℕ) → list_all is_ascii_digit (take n word) ≡ true
    → value_of (take n word) ≡ slot → n ≤ length word
    → (n ≤ 10 → n < length word → is_ascii_digit (get_or word n 0) ≡ false)
    → (n ≢ 0 → n ≤ 10 → slot ≤ 4294967295 → n < length word → get_or word n 0 ≢ 46) → id_of (115 ∷ word) ≡ None
no_slot_in word n slot digits is within ends fails =
    let at = id_at word (position_or_len (is_byte 46) word) refl in
    grind (arith, nat_tests, common_steps, at, digits_before 46 word n, no_digits_before word n slot digits is within ends 46)

-- a text that begins with a letter and digits
module _ (text rest : List ℕ) (n : ℕ) (some : 1 ≤ length text) (letter : get_or text 0 0 ≡ 115)
    (behind : rest ≡ take (length text - 1) (drop 1 text)) (digits : list_all is_ascii_digit (take n rest) ≡ true) where
  -- a full stop is next
  object_led : (word : List ℕ) (more : List (List ℕ)) → n < length rest → get_or rest n 0 ≡ 46
      → words_of (take (length rest - (n + 1)) (drop (n + 1) rest)) ≡ word ∷ more
      → words_of text ≡ (115 ∷ (take n rest ++ 46 ∷ word)) ∷ more
  object_led word more within stop words =
      grind (arith, nat_tests, common_steps, take_rest, digits_led (take n rest) (46 ∷ drop (n + 1) rest) (46 ∷ word) more)

  -- an object is the first word
  pub first_object : (slot generation : ℕ) (more : List (List ℕ)) → value_of (take n rest) ≡ slot → n < length rest
      → get_or rest n 0 ≡ 46 → n ≢ 0 → n ≤ 10 → slot ≤ 4294967295 → (word : List ℕ) × (number_of word ≡ Some generation)
      × (words_of (take (length rest - (n + 1)) (drop (n + 1) rest)) ≡ word ∷ more) → (word : List ℕ)
      × (id_of word ≡ Some (record { slot = slot; generation = generation })) × (words_of text ≡ word ∷ more)
  first_object slot generation more is within stop few short small found = (
    115 ∷ (take n rest ++ 46 ∷ found.0),
    grind (arith, nat_tests, common_steps, id_parts (take n rest)),
    grind (arith, object_led),
  )

  -- what stands behind the full stop is no number
  pub no_generation : n < length rest → get_or rest n 0 ≡ 46 → ((w : List ℕ) (ws : List (List ℕ))
      → words_of (take (length rest - (n + 1)) (drop (n + 1) rest)) ≡ w ∷ ws → number_of w ≡ None)
      → (word : List ℕ) (more : List (List ℕ)) → words_of text ≡ word ∷ more → id_of word ≡ None
  no_generation within stop none word more words =
      by (words_of (take (length rest - (n + 1)) (drop (n + 1) rest))) refl
    where
      by : (ws : List (List ℕ)) → words_of (take (length rest - (n + 1)) (drop (n + 1) rest)) ≡ ws → id_of word ≡ None
      by [] is = absurd (words_some (take (length rest - (n + 1)) (drop (n + 1) rest)) is)
      by (w ∷ ws) is = grind (arith, id_parts (take n rest) w digits, none w ws is, object_led w ws)

  -- what stands behind the letter is none
  pub no_slot : (slot : ℕ) → value_of (take n rest) ≡ slot → n ≤ length rest
      → (n ≤ 10 → n < length rest → is_ascii_digit (get_or rest n 0) ≡ false)
      → (n ≢ 0 → n ≤ 10 → slot ≤ 4294967295 → n < length rest → get_or rest n 0 ≢ 46)
      → (word : List ℕ) (more : List (List ℕ)) → words_of text ≡ word ∷ more → id_of word ≡ None
  no_slot slot is within ends fails word more words =
      let led : take (position_or_len (is_byte 32) text) text ≡ 115 ∷ take (position_or_len (is_byte 32) rest) rest =
      grind (arith, nat_tests, common_steps, take_rest) in
      let most = prefix_len-le-length (λ byte. not (is_byte 32 byte)) rest in
      let none = no_slot_in (take (position_or_len (is_byte 32) rest) rest) n slot in
      rw (first_word_is text word more words, led) (grind (arith, common_steps, digits_before 32 rest n, most, none))

-- the letter isn't there
pub no_letter : (text : List ℕ) → (1 ≤ length text → get_or text 0 0 ≢ 115)
    → (word : List ℕ) (more : List (List ℕ)) → words_of text ≡ word ∷ more → id_of word ≡ None
no_letter text other word more words = grind (arith, nat_tests, common_steps, first_word_is text word more words)

pub ruleset object_laws = (first_object, no_generation, no_slot, no_letter)
