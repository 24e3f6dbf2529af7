-- Where the words of a slot lie.
use Rattle.std.specs.Prelude.{◌≡◌, ℕ, ◌+◌, ◌*◌, ◌/◌, ◌%◌, ◌<◌, min, List, length, slice_index}
use Rattle.pin_core.specs.declared.world.Slot.{Slot}
use Rattle.pin_core.specs.Descrs as descr_code
use Rattle.pin_core.specs.Words.{encoded}
use Rattle.pin_core.specs.Worlds.{slot_of}

-- how many words so many slots have. A line of the processor's cache holds eight; there is a line for each slot, up to
-- 16,384 of them
unfoldable pub words_of : ℕ → ℕ
words_of slots = min slots 16384 * 8

-- the pin word of a slot, and its descriptor beside it. The slots s, s + 16,384, s + 32,768 and s + 49,152 share a line
unfoldable pub place_of : ℕ → ℕ
place_of s = s % 16384 * 8 + s / 16384 * 2

abbrev pub descr_place : ℕ → ℕ
descr_place s = place_of s + 1

-- the place is what f says of the slot s, which is one of the 65,536 that there may be: by these alone a place tells its
-- slot
pub record IsPlace (f : ℕ → ℕ) (place s : ℕ) : Type 0 where
  pub few : s < 65536
  pub is : place ≡ f s

-- what is so of the slot that has its pin word at the place
abbrev pub AtSlot : ℕ → (ℕ → Type 0) → Type 0
AtSlot place P = (s : ℕ) → IsPlace place_of place s → P s

-- the words of a slot that nobody holds
abbrev pub pin_word : Slot → ℕ
pin_word slot = encoded record { generation = slot.generation; phase = slot.phase; pins = 0 }

abbrev pub descr_word : Slot → ℕ
descr_word slot = descr_code.encoded slot.descr

-- words of slots that nobody holds, of which the first are laid
pub record AreLaid (slots : List Slot) (laid : ℕ) (ws : List ℕ) : Type 0 where
  pub wide : length ws ≡ words_of (length slots)
  pub words : (i : ℕ) → i < laid → slice_index ws (place_of i) ≡ pin_word (slot_of slots i)
  pub descrs : (i : ℕ) → i < laid → slice_index ws (descr_place i) ≡ descr_word (slot_of slots i)
