-- Steps one after another, each told by one value of a list.
use Rattle.std.specs.Prelude.{◌≡◌, List, [], ◌∷◌}

abbrev pub Chain : {S X : Type 0} → (S → X → S → Type 0) → S → List X → S → Type 0
Chain Next s [] t = s ≡ t
Chain {S = S} Next s (x ∷ xs) t = (m : S) × (Next s x m × Chain Next m xs t)
