-- An answer without its line feed.
use Rattle.ob_script.proofs.Cited.{◌≡◌, ℕ, ◌-◌, arith, List, [], ◌∷◌, ◌++◌, length, take, common_steps}

pub without_end : (text : List ℕ) → take (length (text ++ 10 ∷ []) - 1) (text ++ 10 ∷ []) ≡ text
without_end text = grind (arith, common_steps)
