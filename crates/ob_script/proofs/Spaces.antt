-- Words that are joined by spaces are read as they were.
use Rattle.ob_script.proofs.Cited.{◌≡◌, ℕ, ℤ, arith, refl, List, [], ◌∷◌, ◌++◌, Bool, true, false, not, ◌==◌, decimal, append-nil, not-true, digits, signed_decimal, list_all, AllPass-from_list_all, words_of, joined, said}
use Rattle.std.proofs.lemmas.List.Splits.{slice_split_at, slice_split_none}
use Rattle.ob_script.proofs.Numerals.{digits_pass}

-- whether a word has no space
abbrev pub is_word : List ℕ → Bool
is_word word = list_all (λ byte. not (byte == 32)) word

-- none of these has a space
abbrev pub AreWords : List (List ℕ) → Type 0
AreWords [] = Unit {0}
AreWords (word ∷ words) = (is_word word ≡ true) × AreWords words

-- the words of a text that some words are
abbrev pub read_words : List (List ℕ) → List (List ℕ)
read_words [] = []
read_words (word ∷ words) = words_of (joined (word ∷ words))

pub reads_next : (word : List ℕ) (words : List (List ℕ)) → is_word word ≡ true
    → read_words (word ∷ words) ≡ word ∷ read_words words
reads_next word words is = search (arith, not-true, AllPass-from_list_all, slice_split_none, slice_split_at)

pub reads_front : (front words : List (List ℕ)) → AreWords front
    → read_words (front ++ words) ≡ front ++ read_words words
reads_front [] words are = refl
reads_front (word ∷ front) words are = search (arith, reads_next, reads_front front)

pub reads_all : (words : List (List ℕ)) → AreWords words → read_words words ≡ words
reads_all words are = rw append-nil at (reads_front words [] are)

-- digits have no space
pub hex_word : (n : ℕ) → is_word (digits 16 false n) ≡ true
hex_word n = search (arith, digits_pass)

pub decimal_word : (n : ℕ) → is_word (decimal n) ≡ true
decimal_word n = search (arith, digits_pass)

pub signed_word : (z : ℤ) → is_word (signed_decimal z) ≡ true
signed_word z = search (arith, decimal_word)

-- words that each have a space before them
pub said_joined : (words : List (List ℕ)) → said words ≡ joined words
said_joined [] = refl
said_joined (word ∷ words) = search (arith, append-nil, said_joined words)
