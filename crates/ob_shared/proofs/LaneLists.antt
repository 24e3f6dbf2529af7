-- A list of receipts that grows.
use Rattle.std.proofs.Common.{◌≡◌, ℕ, List, [], ◌∷◌, ◌++◌}
use Rattle.ob_shared.specs.declared.book.Entry.{Entry}
use Rattle.ob_shared.specs.Lanes.{AreOf}

pub are_of_more : (number : ℕ) (entries : List Entry) (entry : Entry) → AreOf number entries → entry.lane ≡ number
    → AreOf number (entries ++ entry ∷ [])
are_of_more number [] entry old new = (new, tt)
are_of_more number (x ∷ entries) entry old new = (old.0, are_of_more number entries entry old.1 new)
