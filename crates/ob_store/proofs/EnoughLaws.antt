-- The slots by which it is enough to settle, while bodies and waits go and mutexes are abandoned.
use Rattle.ob_store.proofs.Cited.{◌≡◌, ℕ, List, [], ◌∷◌, ◌++◌, Option, Some, None, arith, get_or, set, map, true, false, at_place, nat_tests, get_or-set_other, Id, Body, Wait, CountedBodies, without_blocks, IsSettled, Any, AreLeft, new_wait, settled_less, SignaledState, KeepsEnough}
use Rattle.ob_waits.specs.Waits.{has_slot, unless_of}
use Rattle.ob_waits.proofs.Settled.{settled_added, settled_dropped}
use Rattle.ob_store.specs.Signaled.{IsEnough, in_slot}
use Rattle.ob_store.proofs.LeftLaws.{left_blocks}

-- where no wait is ready any are enough
pub enough_settled : (a : SignaledState) (bodies : List (Option Body)) (ws : List (Option Wait)) → IsSettled bodies ws
    → IsEnough a bodies ws
enough_settled a bodies ws settled = search arith

-- bodies that went signal nothing
pub enough_left : (a : SignaledState) (bodies after : List (Option Body)) (ws : List (Option Wait))
    → AreLeft bodies after → IsEnough a bodies ws → IsEnough a after ws
enough_left a bodies after ws left enough = search arith

-- a slot that isn't listed with one more
not_listed : (ids : List Id) (id : Id) (k : ℕ) → has_slot (ids ++ id ∷ []) k ≡ false
    → (has_slot ids k ≡ false) × (k ≡ id.slot → ⊥)
not_listed [] id k h = search arith
not_listed (x ∷ ids) id k h = grind (arith, not_listed ids id k)

-- a slot was noted, and its body changed
pub enough_added : (a b : SignaledState) (p q : CountedBodies) (slot : ℕ) (x : Option Body)
    → q ≡ record p { bodies = set p.bodies slot x }
    → (b.whole ≡ true → b.ids ≡ a.ids ++ in_slot slot ∷ []) → (b.whole ≡ true → a.whole ≡ true)
    → KeepsEnough a p.bodies b q.bodies
enough_added a b p q slot x is added before ws enough = search (arith, not_listed, get_or-set_other)

-- a wait came that may be ready, and the slot of its object was noted
pub enough_joined : (a : SignaledState) (bodies : List (Option Body)) (ws : List (Option Wait)) (t : ℕ) (id : Id)
    (d : Option ℕ) → IsSettled bodies ws → (a.whole ≡ true → a.ids ≡ in_slot id.slot ∷ [])
    → IsEnough a bodies (ws ++ Some (new_wait t Any (id ∷ []) d) ∷ [])
enough_joined a bodies ws t id d settled noted =
    let gone : get_or (set bodies id.slot None) id.slot None ≡ None = grind (arith, nat_tests, at_place) in
    record {
      each = λ whole. record {
        before = set bodies id.slot None;
        settled = settled_added _ ws t Any _ d (grind (arith, gone)) (settled_less _ _ ws (grind (arith, nat_tests, at_place)) settled);
        less = λ u k out signaled. grind (arith, nat_tests, at_place, noted whole, out, signaled);
      };
    }

-- a thread's blocks leave, and its wait
pub enough_unwaited : (a : SignaledState) (o p : CountedBodies) (ws : List (Option Wait)) (t : ℕ) (ids : List Id)
    → p ≡ without_blocks o ids → IsEnough a o.bodies ws → IsEnough a p.bodies (map (unless_of t) ws)
enough_unwaited a o p ws t ids blocks enough = let fewer = left_blocks ids o in search (arith, fewer, enough_left, settled_dropped)
