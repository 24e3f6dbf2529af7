-- Handles that each fit, fit one behind another.
use Rattle.ob_script.proofs.Cited.{ℕ, suc, arith, List, [], ◌∷◌, All, Small, FitHandles}

pub each_fits : (handles : List ℕ) → All Small handles → FitHandles handles
each_fits [] all = tt
each_fits (handle ∷ handles) all = (all 0 0 (omega arith), each_fits handles (λ k d within. all (suc k) d (omega arith)))
