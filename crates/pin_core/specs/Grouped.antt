-- A set of triples kept in a list for each slot.
use Rattle.std.specs.Prelude.{◌≡◌, ℕ, ◌+◌, List, [], ◌∷◌, ◌++◌, Vec}
use Rattle.std.specs.Global.{Global}
use Rattle.pin_core.specs.declared.holders.Hold.{Hold}

abbrev pub all_of : List (Vec Hold Global) → List Hold
all_of [] = []
all_of (v ∷ vs) = v.items ++ all_of vs

abbrev pub AllAt : ℕ → List Hold → Type 0
AllAt s [] = Unit {0}
AllAt s (h ∷ hs) = (h.id.slot ≡ s) × AllAt s hs

-- from slot s on, each slot's list has triples about that slot alone
abbrev pub AreGrouped : ℕ → List (Vec Hold Global) → Type 0
AreGrouped s [] = Unit {0}
AreGrouped s (v ∷ vs) = AllAt s v.items × AreGrouped (s + 1) vs
