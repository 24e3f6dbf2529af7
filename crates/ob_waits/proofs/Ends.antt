-- Objects end where their last block leaves: what that keeps.
use Rattle.ob_waits.proofs.Cited.{at_place, nat_tests, ◌≡◌, ℕ, List, [], ◌∷◌, length, Option, Some, None, refl, arith, is_some, length-set, Id, Body, Mode, Wait, State, Pending, Answered, CountedBodies, without_block, without_blocks, HasBodies, with_acquired, with_all_acquired, bodies_after, Scene, effect_of, effect_at, settled}
use Rattle.ob_waits.proofs.Settling.{settled_by_effects}
use Rattle.ob_waits.proofs.EachSlot.{slots-taken}

-- a slot has a body exactly where it had one
abbrev HasStill : Option Body → Option Body → Type 0
HasStill x y = is_some y ≡ is_some x

-- a thread took what it waits for
ends_taken : (mode : Mode) (t : ℕ) (ids : List Id) (objects : CountedBodies) → HasBodies objects
    → HasBodies (record objects { bodies = bodies_after mode t objects.bodies ids })
ends_taken mode t ids objects has = search (arith, slots-taken HasStill)

pub ends_left : (id : Id) (objects : CountedBodies) → HasBodies objects → HasBodies (without_block objects id)
ends_left id objects has = grind (arith, nat_tests, at_place, has.each)

pub ends_all : (ids : List Id) (objects : CountedBodies) → HasBodies objects → HasBodies (without_blocks objects ids)
ends_all [] objects has = has
ends_all (id ∷ ids) objects has = search (arith, ends_all ids, ends_left)

ends_at : (scene : Scene) (n : ℕ) (w : Option Wait) → HasBodies scene.objects → HasBodies (effect_at scene n w).objects
ends_at = search (arith, ends_taken, ends_all)

-- The theorem: where a slot has a body exactly where something refers to its object, it still does after settling.
pub ends_settled : (scene : Scene) → HasBodies scene.objects → HasBodies (settled scene).objects
ends_settled = settled_by_effects (λ (a b : Scene). HasBodies a.objects → HasBodies b.objects) (λ s has. has)
    (λ a b c x y has. y (x has)) (search (arith, ends_at))

-- handles stay, and no slot comes or goes
pub record SameSizes (objects after : CountedBodies) : Type 0 where
  pub bodies : length after.bodies ≡ length objects.bodies
  pub handles : after.handles ≡ objects.handles
  pub blocks : length after.blocks ≡ length objects.blocks

sizes_same : (objects : CountedBodies) → SameSizes objects objects
sizes_same objects = search arith

pub sizes_left : (ids : List Id) (objects : CountedBodies) → SameSizes objects (without_blocks objects ids)
sizes_left [] objects = sizes_same objects
sizes_left (id ∷ ids) objects = search (arith, length-set, sizes_left ids (without_block objects id))

length-all : (t : ℕ) (ids : List Id) (bodies : List (Option Body))
    → length (with_all_acquired t bodies ids) ≡ length bodies
length-all t [] bodies = refl
length-all t (id ∷ ids) bodies = search (arith, length-set, length-all t ids (with_acquired t bodies id))

pub length-after : (mode : Mode) (t : ℕ) (bodies : List (Option Body)) (ids : List Id)
    → length (bodies_after mode t bodies ids) ≡ length bodies
length-after = search (arith, length-all, length-set)

sizes_of : (scene : Scene) (n : ℕ) (w : Wait) (st : State) → SameSizes scene.objects (effect_of scene n w st).objects
sizes_of scene n w (Pending mode ids) = let after = length-after mode w.thread scene.objects.bodies ids in
    let left = sizes_left ids (record scene.objects {
      bodies = bodies_after mode w.thread scene.objects.bodies ids;
    }) in search arith
sizes_of scene n w (Answered code) = sizes_same scene.objects

sizes_at : (scene : Scene) (n : ℕ) (w : Option Wait) → SameSizes scene.objects (effect_at scene n w).objects
sizes_at scene n None = sizes_same scene.objects
sizes_at scene n (Some w) = sizes_of scene n w w.state

pub sizes_settled : (scene : Scene) → SameSizes scene.objects (settled scene).objects
sizes_settled = settled_by_effects (λ (a b : Scene). SameSizes a.objects b.objects) (λ s. sizes_same s.objects)
    (search arith) (search (arith, sizes_at))
