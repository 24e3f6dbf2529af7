-- What a change of one word does to the level above, where no bit is set, and which set of numbers the leaves show.
use Rattle.std.proofs.lemmas.Grind.{elements}
use Rattle.std.proofs.Common.{◌≡◌, ◌≢◌, ℕ, zero, suc, ◌+◌, ◌*◌, ◌/◌, ◌<◌, ◌≤◌, List, [], ◌∷◌, ◌++◌, replicate, length, min, slice_index, arith, sym, refl, ◌∙◌, get_or, set, Bool, true, false}
use Rattle.std.specs.Prelude.{not, ◌==◌, slice_get, Some}
use Rattle.std.proofs.lemmas.List.{get_or_past, length-set, length-replicate, get_or-replicate, ext_get_or, get_or-set_same, get_or-set_other}
use Rattle.std.proofs.lemmas.List.FromFn.{get_or-map-range_with_len, length-map-range_with_len, map-range_with_len_more}
use Rattle.std.proofs.lemmas.List.Sums.{position_or_len_is}
use Rattle.std.proofs.lemmas.Nat.Bits.{bit_at_ones, bit_at_ones_above}
use Rattle.std.specs.Int.{bit_at}
use Rattle.least.specs.Bits.{bit}
use Rattle.least.specs.Levels.{taken_in, SumsUp}
use Rattle.least.specs.Taken.{least_free}

-- an empty word at the end changes no word that is read
pub pushed_none : (ws : List ℕ) (w : ℕ) → slice_index (ws ++ 0 ∷ []) w ≡ slice_index ws w
pushed_none [] w = search arith
pushed_none (x ∷ ws) zero = refl
pushed_none (x ∷ ws) (suc w) = pushed_none ws w

-- a bit that is set has a bit above it
pub leads_back : (bits : ℕ → ℕ) (lo : List ℕ) (n : ℕ) → SumsUp bits lo → bit lo n ≡ 1 → bits (n / 64) ≡ 1
leads_back bits lo n sums e = grind arith

pub inside : (ws : List ℕ) (w : ℕ) → 0 < slice_index ws w → w < length ws
inside ws w h = search (arith, get_or_past)

-- one word changes, and the bit above it
pub sums_changed : (bits bits' : ℕ → ℕ) (lo lo' : List ℕ) (w : ℕ) → SumsUp bits lo
    → ((j : ℕ) → j ≢ w → slice_index lo' j ≡ slice_index lo j) → ((j : ℕ) → j ≢ w → bits' j ≡ bits j)
    → bits' w ≡ min 1 (slice_index lo' w) → SumsUp bits' lo'
sums_changed bits bits' lo lo' w sums below above here j = search arith

-- where no bit above is set below w, no bit is set below the words from w on
pub none_below : (bits : ℕ → ℕ) (lo : List ℕ) (w n : ℕ) → SumsUp bits lo → ((j : ℕ) → j < w → bits j ≡ 0)
    → ((k : ℕ) → 64 * w ≤ k → k < n → bit lo k ≡ 0) → (k : ℕ) → k < n → bit lo k ≡ 0
none_below bits lo w n sums above here k lt = grind arith

pub all_empty : (bits : ℕ → ℕ) (lo : List ℕ) → SumsUp bits lo → ((j : ℕ) → bits j ≡ 0) → (k : ℕ) → bit lo k ≡ 0
all_empty bits lo sums above k = grind arith

-- how many numbers the leaves speak of
pub length_taken_in : (ws : List ℕ) (n : ℕ) → length (taken_in ws n) ≡ n
length_taken_in ws n = search (arith, length-map-range_with_len)

-- a number is taken where its bit is clear
pub get_or-taken_in : (ws : List ℕ) (n k : ℕ) (d : Bool) → k < n → get_or (taken_in ws n) k d ≡ (bit ws k == 0)
get_or-taken_in ws n k d lt = search (arith, get_or-map-range_with_len)

-- the same bits below n show the same set
pub taken_same : (ws ws' : List ℕ) (n : ℕ) → ((k : ℕ) → k < n → bit ws' k ≡ bit ws k) → taken_in ws' n ≡ taken_in ws n
taken_same ws ws' n same = ext_get_or true (taken_in ws' n) (taken_in ws n) (search (arith, length_taken_in))
    (search (arith, length_taken_in, get_or-taken_in))

-- one bit changes
pub taken_set : (ws ws' : List ℕ) (n k : ℕ) (b : Bool) → k < n → (bit ws' k == 0) ≡ b
    → ((j : ℕ) → j ≢ k → bit ws' j ≡ bit ws j) → taken_in ws' n ≡ set (taken_in ws n) k b
taken_set ws ws' n k b lt here others = ext_get_or true (taken_in ws' n) (set (taken_in ws n) k b)
    (search (arith, length_taken_in, length-set))
    (search (arith, length_taken_in, get_or-taken_in, get_or-set_other, get_or-set_same))

pub taken_cleared : (ws ws' : List ℕ) (n k : ℕ) → k < n → bit ws' k ≡ 0 → ((j : ℕ) → j ≢ k → bit ws' j ≡ bit ws j)
    → taken_in ws' n ≡ set (taken_in ws n) k true
taken_cleared ws ws' n k lt here others = search (arith, taken_set)

pub taken_freed : (ws ws' : List ℕ) (n k : ℕ) → k < n → bit ws' k ≡ 1 → ((j : ℕ) → j ≢ k → bit ws' j ≡ bit ws j)
    → taken_in ws' n ≡ set (taken_in ws n) k false
taken_freed ws ws' n k lt here others = search (arith, taken_set)

-- the next number is taken where its bit is clear
pub taken_more : (ws : List ℕ) (n : ℕ) → bit ws n ≡ 0 → taken_in ws (n + 1) ≡ taken_in ws n ++ true ∷ []
taken_more ws n none = rw (map-range_with_len_more (λ k. bit ws k == 0) 0 n n (omega arith), none) refl

-- a free number has a bit
pub free_bit : (ws : List ℕ) (n k : ℕ) (taken : List Bool) → taken_in ws n ≡ taken → slice_get taken k ≡ Some false
    → (k < n) × (bit ws k ≡ 1)
free_bit ws n k taken shown is = grind (arith, elements, length_taken_in, get_or-taken_in)

-- the lowest bit is the least free number
pub least_at : (ws : List ℕ) (n k : ℕ) → k < n → bit ws k ≡ 1 → ((j : ℕ) → j < k → bit ws j ≡ 0)
    → least_free (taken_in ws n) ≡ k
least_at ws n k lt here below = position_or_len_is not (taken_in ws n) k true (simp length_taken_in (omega arith))
    (search (arith, get_or-taken_in))
    (search (arith, get_or-taken_in))

-- with no bit it is the length
pub least_none : (ws : List ℕ) (n : ℕ) → ((j : ℕ) → bit ws j ≡ 0) → least_free (taken_in ws n) ≡ n
least_none ws n none = position_or_len_is not (taken_in ws n) n true (simp length_taken_in (omega arith))
    (search (arith, get_or-taken_in))
    (search (arith, length_taken_in))

-- a bit is set for numbers below the length alone
pub within_length : (ws : List ℕ) (n k : ℕ) → ((j : ℕ) → n ≤ j → bit ws j ≡ 0) → bit ws k ≡ 1 → k < n
within_length ws n k none_past here = search arith

-- an empty word at the end has no bit
pub pushed_bit : (ws : List ℕ) (k : ℕ) → bit (ws ++ 0 ∷ []) k ≡ bit ws k
pushed_bit ws k = search (arith, pushed_none)

pub word_of_bit : (ws : List ℕ) (n : ℕ) → bit ws n ≡ 1 → n / 64 < length ws
word_of_bit ws n here = search (arith, inside)

-- words without a bit
pub no_word : (w k : ℕ) → slice_index (replicate w 0) k ≡ 0
no_word zero k = refl
no_word (suc w) zero = refl
no_word (suc w) (suc k) = no_word w k

pub no_bit : (w k : ℕ) → bit (replicate w 0) k ≡ 0
no_bit w k = search (arith, no_word)

-- without a bit every number is taken
pub all_taken : (ws : List ℕ) (n : ℕ) → ((k : ℕ) → bit ws k ≡ 0) → taken_in ws n ≡ replicate n true
all_taken ws n none = ext_get_or true (taken_in ws n) (replicate n true) (length_taken_in ws n
    ∙ sym (length-replicate n true))
    (search (arith, length_taken_in, get_or-taken_in, get_or-replicate))

-- where each number below the length has a bit, every number is free
pub all_free : (ws : List ℕ) (n : ℕ) → ((k : ℕ) → k < n → bit ws k ≡ 1) → taken_in ws n ≡ replicate n false
all_free ws n set_below = ext_get_or true (taken_in ws n) (replicate n false) (length_taken_in ws n
    ∙ sym (length-replicate n false))
    (search (arith, length_taken_in, get_or-taken_in, get_or-replicate))

-- each bit of a full word is set, and a word with a bit isn't 0
pub full_word : (i : ℕ) → i < 64 → bit_at 18446744073709551615 i ≡ 1
full_word i lt = bit_at_ones 64 i lt

pub full_word_past : (i : ℕ) → 64 ≤ i → bit_at 18446744073709551615 i ≡ 0
full_word_past i le = bit_at_ones_above 64 i le

pub some_bit : (word i : ℕ) → bit_at word i ≡ 1 → 0 < word
some_bit word i here = search arith

pub full_words : (n k : ℕ) → k < 64 * n → bit (replicate n 18446744073709551615) k ≡ 1
full_words n k lt = search (arith, full_word, get_or-replicate)

-- words that each have a bit are summed up by as many bits
pub summed_full : (bits : ℕ → ℕ) (lo : List ℕ) → ((w : ℕ) → w < length lo → bits w ≡ 1)
    → ((w : ℕ) → length lo ≤ w → bits w ≡ 0) → ((w : ℕ) → w < length lo → 0 < slice_index lo w) → SumsUp bits lo
summed_full bits lo there past not_zero w = search (arith, get_or_past)
