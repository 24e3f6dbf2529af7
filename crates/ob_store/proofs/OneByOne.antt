-- A change of all bodies that is made at one slot after another.
use Rattle.ob_store.proofs.Cited.{◌≡◌, ℕ, arith, Option, None, get_or, map, map-set_same, length-map, get_or-map, ext_get_or, Body, CountedBodies, changed_at}

module _ (f : Option Body → Option Body) where
  -- a slot that changed before the others do
  pub one_before : ((x : Option Body) → f (f x) ≡ f x) → (k : ℕ) (o p : CountedBodies) → p ≡ changed_at o k f
      → record p { bodies = map f p.bodies } ≡ record o { bodies = map f o.bodies }
  one_before twice k o p is = search (arith, map-set_same)

  -- where none is left to change all have changed
  pub all_done : (o p : CountedBodies) → ((k : ℕ) → f (get_or p.bodies k None) ≡ get_or p.bodies k None)
      → record p { bodies = map f p.bodies } ≡ record o { bodies = map f o.bodies }
      → p ≡ record o { bodies = map f o.bodies }
  all_done o p none same =
      search (arith, ext_get_or None (map f p.bodies) p.bodies (length-map p.bodies f) (search (arith, get_or-map, length-map)))
