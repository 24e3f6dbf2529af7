-- What relates the bodies of a slot before and after a change, said of all slots: where it relates a body to what a
-- thread leaves of it, and to none, a satisfied wait and the blocks that leave keep to it.
use Rattle.ob_waits.proofs.Cited.{arith, ℕ, List, [], ◌∷◌, Option, None, get_or, set, Bool, cond, at_place, Id, Body, Mode, CountedBodies, slot_acquired, without_block, without_blocks, with_acquired, with_all_acquired, bodies_after}

abbrev pub Bodies : Type 0
Bodies = List (Option Body)

abbrev pub EachSlot : (Option Body → Option Body → Type 0) → Bodies → Bodies → Type 0
EachSlot R bodies after = (k : ℕ) → R (get_or bodies k None) (get_or after k None)

module _ (R : Option Body → Option Body → Type 0) (same : (x : Option Body) → R x x)
    (both : (x y z : Option Body) → R x y → R y z → R x z) where
  slots-both : (a b c : Bodies) → EachSlot R a b → EachSlot R b c → EachSlot R a c
  slots-both a b c x y k = both (get_or a k None) (get_or b k None) (get_or c k None) (x k) (y k)

  slots-set : (bodies : Bodies) (i : ℕ) (x : Option Body) → R (get_or bodies i None) x
      → EachSlot R bodies (set bodies i x)
  slots-set bodies i x one k = grind (arith, at_place)

  module _ (u : ℕ) (takes : (x : Option Body) → R x (slot_acquired u x)) where
    slots-one : (bodies : Bodies) (id : Id) → EachSlot R bodies (with_acquired u bodies id)
    slots-one bodies id = search (arith, slots-set)

    slots-all : (ids : List Id) (bodies : Bodies) → EachSlot R bodies (with_all_acquired u bodies ids)
    slots-all [] bodies = λ k. same (get_or bodies k None)
    slots-all (id ∷ ids) bodies = search (arith, slots-both, slots-one, slots-all ids (with_acquired u bodies id))

    pub slots-taken : (mode : Mode) (ids : List Id) (bodies : Bodies)
        → EachSlot R bodies (bodies_after mode u bodies ids)
    slots-taken = search (arith, slots-one, slots-all)

    module _ (ends : (x : Option Body) → R x None) where
      slots-if : (b : Bool) (bodies : Bodies) (i : ℕ) → EachSlot R bodies (cond b (set bodies i None) bodies)
      slots-if = search (arith, slots-set)

      slots-left : (ids : List Id) (objects : CountedBodies)
          → EachSlot R objects.bodies (without_blocks objects ids).bodies
      slots-left [] objects = search arith
      slots-left (id ∷ ids) objects = search (arith, slots-both, slots-if, slots-left ids (without_block objects id))

      -- a wait of the thread is satisfied, and its blocks leave
      pub slots-satisfied : (mode : Mode) (ids : List Id) (objects : CountedBodies) → EachSlot R objects.bodies
          (without_blocks (record objects { bodies = bodies_after mode u objects.bodies ids }) ids).bodies
      slots-satisfied mode ids objects =
          slots-both objects.bodies (bodies_after mode u objects.bodies ids) _ (slots-taken mode ids objects.bodies)
          (slots-left ids (record objects { bodies = bodies_after mode u objects.bodies ids }))
