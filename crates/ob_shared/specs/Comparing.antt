-- Many lanes that are compared with a journal in one pass over it.
use Rattle.std.specs.Prelude.{◌≡◌, ℕ, ◌+◌, ◌<◌, List, length, slice_index_or, take}
use Rattle.ob_shared.specs.declared.book.Entry.{Entry}
use Rattle.ob_shared.specs.Lanes.{LaneState, part}

-- the lanes have the numbers from the first one on, one after another
abbrev pub AreFrom : ℕ → List LaneState → Type 0
AreFrom first lanes = (k : ℕ) (d : LaneState) → k < length lanes → (slice_index_or lanes k d).number ≡ first + k

-- of the list of each of these lanes so many entries are the lane's in the journal
abbrev pub HaveRead : ℕ → List LaneState → List Entry → List ℕ → Type 0
HaveRead first lanes journal read = (k : ℕ) (d : LaneState) → k < length lanes
    → take (slice_index_or read k 0) (slice_index_or lanes k d).list ≡ part (first + k) journal
