-- The published list has each object.
use Rattle.ob_store.proofs.Cited.{at_place, nat_tests, ◌≡◌, ℕ, ◌<◌, List, [], ◌∷◌, ◌++◌, length, set, arith, Option, Some, get_or-set_same, get_or-set_other, get_or_past, length-set, Id, Object, ObjectsState, ObjectAttributes, object_in, Descr, stored, published, Listed, IsListed}
use Rattle.pin_core.proofs.Counts.{count-snoc}

-- an object set at a slot, or one that leaves
pub listed_set : (ps : List (Id × Descr)) (objects : List (Option Object)) (s : ℕ) (x : Option Object) → Listed ps x
    → IsListed ps objects → IsListed ps (set objects s x)
listed_set ps objects s x new old = search (arith, get_or-set_other, get_or-set_same, get_or_past, length-set)

more : (ps : List (Id × Descr)) (p : Id × Descr) (x : Option Object) → Listed ps x → Listed (ps ++ p ∷ []) x
more = search (arith, count-snoc)

new_one : (ps : List (Id × Descr)) (p : Id × Descr) (o : Object) → p ≡ (o.id, o.descr) → Listed (ps ++ p ∷ []) (Some o)
new_one ps p o is = search (arith, count-snoc)

-- a new object is published with its descriptor
pub listed_added : (s : ObjectsState) (k : ℕ) (attributes : ObjectAttributes) → k < length s.keeper.slots
    → IsListed s.keeper.published s.objects
    → IsListed (published (stored s.keeper k attributes.descr) k).published (set s.objects k (Some (object_in s k attributes)))
listed_added s k attributes inside old = grind (arith, nat_tests, at_place, listed_set, more, new_one)
