-- How the lanes that are handed in compare with the journal.
use Rattle.std.specs.Prelude.{◌≡◌, ◌≢◌, All, ℕ, ◌<◌, ◌==◌, ◌||◌, Bool, false, true, not, nat_le, List, [], ◌∷◌, take, length, slice_index_or}
use Rattle.std.specs.List.{list_any, range_with_len, slice_get}
use Rattle.ob_shared.specs.declared.book.Entry.{Entry}
use Rattle.ob_shared.specs.declared.closing.CloseCause.{CloseCause}
use Rattle.ob_shared.specs.declared.closing.CloseCause.TheVariants.{LaneStranger, LaneTwice, LaneMissing, LanesDiffer}
use Rattle.ob_shared.specs.Lanes.{LaneState, part}

-- a number that no lane has yet, when so many are given
abbrev pub is_stranger : ℕ → LaneState → Bool
is_stranger given lane = nat_le given lane.number

abbrev pub has_number : ℕ → LaneState → Bool
has_number number lane = lane.number == number

-- two lanes with one number
abbrev pub has_twice : List LaneState → Bool
has_twice [] = false
has_twice (lane ∷ lanes) = list_any (has_number lane.number) lanes || has_twice lanes

-- no lane has the number
abbrev pub is_missing : List LaneState → ℕ → Bool
is_missing lanes number = not (list_any (has_number number) lanes)

abbrev pub is_entry_missing : List LaneState → Entry → Bool
is_entry_missing lanes entry = is_missing lanes entry.lane

-- a number that was given, or one in the journal, that no lane has
abbrev pub misses : ℕ → List LaneState → List Entry → Bool
misses given lanes journal = list_any (is_missing lanes) (range_with_len 0 given)
    || list_any (is_entry_missing lanes) journal

-- the lane's list is its part of the journal
abbrev pub IsPart : List Entry → LaneState → Type 0
IsPart journal lane = lane.list ≡ part lane.number journal

-- the two lists are equal before the place, and differ there
pub record DifferAt (xs ys : List Entry) (place : ℕ) : Type 0 where
  pub before : take place xs ≡ take place ys
  pub differs : slice_get xs place ≢ slice_get ys place

-- the first lane whose list is not its part of the journal, and the place
pub record FirstDiffers (lanes : List LaneState) (journal : List Entry) (number place : ℕ) : Type 0 where
  pub at : ℕ
  pub within : at < length lanes
  pub before : (k : ℕ) (d : LaneState) → k < at → IsPart journal (slice_index_or lanes k d)
  pub named : (d : LaneState) → (slice_index_or lanes at d).number ≡ number
  pub differs : (d : LaneState) → DifferAt (slice_index_or lanes at d).list (part number journal) place

-- the lanes have the numbers that were given, each once, with each of the journal's, and each has its part
pub record AreWhole (given : ℕ) (lanes : List LaneState) (journal : List Entry) : Type 0 where
  pub no_stranger : list_any (is_stranger given) lanes ≡ false
  pub apart : has_twice lanes ≡ false
  pub all : misses given lanes journal ≡ false
  pub parts : All (IsPart journal) lanes

-- the first cause, in this order: a stranger, a number twice, a number missing, and a list that differs
abbrev pub IsCause : ℕ → List LaneState → List Entry → CloseCause → Type 0
IsCause given lanes journal LaneStranger = list_any (is_stranger given) lanes ≡ true
IsCause given lanes journal LaneTwice = (list_any (is_stranger given) lanes ≡ false) × (has_twice lanes ≡ true)
IsCause given lanes journal LaneMissing = (list_any (is_stranger given) lanes ≡ false) × (has_twice lanes ≡ false)
    × (misses given lanes journal ≡ true)
IsCause given lanes journal (LanesDiffer number place) = (list_any (is_stranger given) lanes ≡ false)
    × (has_twice lanes ≡ false) × (misses given lanes journal ≡ false) × FirstDiffers lanes journal number place
