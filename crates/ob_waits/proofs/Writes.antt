-- A list of which one place was written, past its end too.
use Rattle.ob_waits.proofs.Cited.{◌≡◌, ℕ, arith, get_or, List, None, Option, set, get_or-set_same, get_or_past, length-set}

-- nothing stands where nothing was written
pub set_none : {A : Type 0} (xs : List (Option A)) (k : ℕ) → get_or (set xs k None) k None ≡ None
set_none xs k = search (arith, get_or-set_same, get_or_past, length-set)
