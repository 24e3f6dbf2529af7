-- A slot has a body exactly where something refers to its object: each change of the objects keeps that.
use Rattle.ob_store.proofs.Cited.{◌≡◌, ℕ, ◌<◌, List, Option, Some, None, arith, get_or, set, length-set, get_or_past, get_or-set_same, get_or-set_other, HasBodies, Places, without_handle}

-- what is found where one place was emptied was there before
pub some_set : {A : Type 0} (xs : List (Option A)) (k j : ℕ) (x : A) → get_or (set xs k None) j None ≡ Some x
    → get_or xs j None ≡ Some x
some_set xs k j x h = search (arith, get_or-set_same, get_or_past, length-set, get_or-set_other)

-- one handle fewer: with the last reference the body goes
pub bodied_handle_left : (p : Places) (k : ℕ) → 0 < get_or p.seen.handles k 0 → HasBodies p.seen
    → HasBodies (without_handle p k).seen
bodied_handle_left p k some has = search (arith, get_or-set_other, get_or-set_same, get_or_past)
