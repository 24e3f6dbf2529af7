-- A wait is ready or not by the bodies of the slots that it names; so after a change in some slots, only waits that
-- name one can become ready.
use Rattle.ob_waits.proofs.Cited.{◌≡◌, ℕ, ◌<◌, List, [], ◌∷◌, length, Option, None, refl, arith, get_or, set, Bool, true, eqb, position_or_len, list_any, list_all, list_any_at, get_or-set_other, Id, Body, Wait, IsSettled, IsReadyAt, nowhere, is_ready, first_signaled, names_slot}

abbrev pub in_slot : ℕ → Id → Bool
in_slot k id = eqb id.slot k

pub named_at : (ids : List Id) (i : ℕ) → i < length ids → list_any (in_slot (get_or ids i nowhere).slot) ids ≡ true
named_at ids i lt = search (arith, list_any_at)

-- tests that agree on the objects of a list agree on the list
module _ (p q : Id → Bool) where
  abbrev pub Agree : List Id → Type 0
  Agree ids = (id : Id) → list_any (in_slot id.slot) ids ≡ true → p id ≡ q id

  agree_later : (x : Id) (xs : List Id) → Agree (x ∷ xs) → Agree xs
  agree_later x xs same id named = search arith

  pub all_agree : (ids : List Id) → Agree ids → list_all p ids ≡ list_all q ids
  all_agree [] same = refl
  all_agree (x ∷ xs) same = search (arith, all_agree xs (agree_later x xs same))

  pub any_agree : (ids : List Id) → Agree ids → list_any p ids ≡ list_any q ids
  any_agree [] same = refl
  any_agree (x ∷ xs) same = search (arith, any_agree xs (agree_later x xs same))

  pub first_agree : (ids : List Id) → Agree ids → position_or_len p ids ≡ position_or_len q ids
  first_agree [] same = refl
  first_agree (x ∷ xs) same = search (arith, first_agree xs (agree_later x xs same))

-- bodies that are the same in the slots of a list
abbrev pub SameAt : List (Option Body) → List (Option Body) → List Id → Type 0
SameAt bodies after ids = (k : ℕ) → list_any (in_slot k) ids ≡ true → get_or after k None ≡ get_or bodies k None

pub first_same : (bodies after : List (Option Body)) (t : ℕ) (ids : List Id) → SameAt bodies after ids
    → first_signaled t after ids ≡ first_signaled t bodies ids
first_same bodies after t ids same = search (arith, first_agree)

pub ready_same : (bodies after : List (Option Body)) (w : Option Wait)
    → ((k : ℕ) → names_slot k w ≡ true → get_or after k None ≡ get_or bodies k None)
    → is_ready after w ≡ is_ready bodies w
ready_same = search (arith, all_agree, first_same)

-- The theorem: where no wait was ready and one slot changed, each wait that is ready names the slot.
pub ready_named : (bodies : List (Option Body)) (waits : List (Option Wait)) (k : ℕ) (x : Option Body)
    → IsSettled bodies waits → (n : ℕ) → is_ready (set bodies k x) (get_or waits n None) ≡ true
    → names_slot k (get_or waits n None) ≡ true
ready_named bodies waits k x settled n ready = search (arith, ready_same, get_or-set_other)

-- and it is so by the slot
pub ready_at_change : (bodies : List (Option Body)) (waits : List (Option Wait)) (k : ℕ) (x : Option Body)
    → IsSettled bodies waits → IsReadyAt k (set bodies k x) waits
ready_at_change bodies waits k x settled = search (arith, get_or-set_other)
