-- The words of different slots lie apart, and all are within the table.
use Rattle.pin_words.proofs.Cited.{at_place, cond, eqb, ◌≡◌, ◌≢◌, ℕ, ◌+◌, ◌<◌, ◌≤◌, List, length, get_or, set, length-set, get_or-set_other, arith, Slot, slot_of, descr_place, pin_word, AreLaid}
use Rattle.pin_words.specs.Places.{words_of, place_of, descr_word}

pub few : (s slots : ℕ) → slots ≤ 65536 → s < slots → s < 65536
few s slots most inside = omega arith

pub some_words : (slots : ℕ) → 1 ≤ slots → 0 < words_of slots
unfolding words_of
some_words slots some = omega arith

-- both words of a slot
pub within : (s slots : ℕ) → slots ≤ 65536 → s < slots → descr_place s < words_of slots
unfolding words_of place_of
within s slots most inside = omega arith

pub apart : (s t : ℕ) → s < 65536 → t < 65536 → place_of s ≡ place_of t → s ≡ t
unfolding place_of
apart s t s-few t-few same = omega arith

-- pin words have even places
pub unlike : (s t : ℕ) → place_of s ≢ descr_place t
unfolding place_of
unlike s t same = omega arith

-- what a write of a word of the slot i leaves at the slot j
module _ (slots : ℕ) (ws : List ℕ) (i n : ℕ) (most : slots ≤ 65536) (wide : length ws ≡ words_of slots)
    (inside : i < slots) (j : ℕ) (below : j < slots) where
  pub pin-set : get_or (set ws (place_of i) n) (place_of j) 0 ≡ cond (eqb j i) n (get_or ws (place_of j) 0)
  pin-set = search (arith, within, apart, at_place)

  pub descr-set : get_or (set ws (descr_place i) n) (descr_place j) 0 ≡ cond (eqb j i) n (get_or ws (descr_place j) 0)
  descr-set = search (arith, within, apart, at_place)

-- one slot more is laid
pub laid_more : (slots : List Slot) (i p q m n : ℕ) (ws : List ℕ) → AreLaid slots i ws → length slots ≤ 65536
    → i < length slots → p ≡ place_of i → q ≡ descr_place i → m ≡ pin_word (slot_of slots i)
    → n ≡ descr_word (slot_of slots i) → AreLaid slots (i + 1) (set (set ws p m) q n)
laid_more slots i p q m n ws are most inside p-is q-is m-is n-is =
    search (arith, set, length, length-set, descr_place, unlike, pin-set, get_or-set_other, descr-set)
