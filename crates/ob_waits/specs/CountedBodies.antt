-- The bodies of the objects, and how much refers to each: the objects as waits see them.
use Rattle.std.specs.Prelude.{ℕ, ◌+◌, ◌-◌, ◌==◌, Bool, true, false, List, [], ◌∷◌, Option, Some, None, if◌then◌else◌, slice_index_or, slice_set}
use Rattle.ob_body.specs.declared.body.Body.{Body}
use Rattle.ob_body.specs.Body as body
use Rattle.pin_core.specs.declared.id.Id.{Id}

pub record CountedBodies : Type 0 where
  -- the body in each slot that has one
  pub bodies : List (Option Body)
  -- how many handles of each slot's object there are
  pub handles : List ℕ
  -- how many places of pending waits name it
  pub blocks : List ℕ

-- the body of an object
abbrev pub body_of : List (Option Body) → Id → Option Body
body_of bodies id = slice_index_or bodies id.slot None

-- the objects with another body for one of them
abbrev pub with_body : CountedBodies → Id → Body → CountedBodies
with_body objects id b = record objects { bodies = slice_set objects.bodies id.slot (Some b) }

-- one block fewer of an object
abbrev pub blocks_left : List ℕ → Id → List ℕ
blocks_left blocks id = slice_set blocks id.slot (slice_index_or blocks id.slot 0 - 1)

-- an object that nothing refers to any more ends: it has no body
abbrev pub bodies_left : CountedBodies → Id → List (Option Body)
bodies_left objects id =
    if slice_index_or objects.handles id.slot 0 + (slice_index_or objects.blocks id.slot 0
    - 1) == 0 then slice_set objects.bodies id.slot None else objects.bodies

abbrev pub without_block : CountedBodies → Id → CountedBodies
without_block objects id = record objects { bodies = bodies_left objects id; blocks = blocks_left objects.blocks id }

-- the objects once the blocks of a list have left
abbrev pub without_blocks : CountedBodies → List Id → CountedBodies
without_blocks objects [] = objects
without_blocks objects (id ∷ ids) = without_blocks (without_block objects id) ids

-- what a slot's body is to a thread, if there is one: a slot without a body, as an ended object's is, is signaled for
-- nobody
abbrev pub slot_signaled : ℕ → Option Body → Bool
slot_signaled thread None = false
slot_signaled thread (Some b) = body.is_signaled thread b

abbrev pub slot_abandoned : Option Body → Bool
slot_abandoned None = false
slot_abandoned (Some b) = body.is_abandoned b

abbrev pub slot_room : ℕ → ℕ → Option Body → Bool
slot_room limit thread None = true
slot_room limit thread (Some b) = body.has_room limit thread b

abbrev pub slot_acquired : ℕ → Option Body → Option Body
slot_acquired thread None = None
slot_acquired thread (Some b) = Some (body.after_acquire thread b)
