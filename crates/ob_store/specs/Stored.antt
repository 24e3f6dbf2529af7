-- What is stored of the objects and their names, and what it is whenever no call is under way.
use Rattle.std.specs.Prelude.{◌≡◌, ◌↔◌, ℕ, ◌+◌, ◌<◌, List, Option, Some, None, length, slice_index_or}
use Rattle.std.specs.List.{Contains}
use Rattle.pin_core.specs.declared.id.Id.{Id}
use Rattle.ob_body.specs.declared.body.Body.{Body}
use Rattle.ob_name.specs.Names.{ObjectName}
use Rattle.ob_name.specs.Listing.{Rows, AreDistinct}
use Rattle.ob_waits.specs.CountedBodies as waits
use Rattle.ob_store.specs.Objects.{Object}
use Rattle.ob_store.specs.Agreement.{IsListed}
use Rattle.ob_store.specs.State.{State, Whole, handles_of, blocks_of, hold_of, references_of}

-- by slot, the object, its body and its counters; and the rows of the directory
pub record StoredState : Type 0 where
  pub objects : List (Option Object)
  pub seen : waits.CountedBodies
  pub rows : Rows

-- an object without a body has a hold
abbrev pub hold_in : Option Body → ℕ
hold_in None = 1
hold_in (Some body) = 0

-- a slot has this object
abbrev pub Holds : StoredState → ℕ → Object → Type 0
Holds t k o = slice_index_or t.objects k None ≡ Some o

-- an object of this Id has this name, and a handle
pub record IsOpenByName (s : State) (name : ObjectName) (id : Id) : Type 0 where
  pub object : Object
  pub is_there : slice_index_or s.objects id.slot None ≡ Some object
  pub its_id : object.id ≡ id
  pub its_name : object.name ≡ Some name
  pub handled : 0 < handles_of s id

-- what is stored refers to the object of a slot: its handles and its blocks, and a hold where it has no body
abbrev pub references_at : StoredState → ℕ → ℕ
references_at t k = slice_index_or t.seen.handles k 0 + slice_index_or t.seen.blocks k 0
    + hold_in (slice_index_or t.seen.bodies k None)

-- what is stored is what the state and the keeper say, in each slot and in the directory
pub record MatchesState (w : Whole) (t : StoredState) : Type 0 where
  -- there are as many slots as the limits say, each with its place in each list, and no others
  pub sizes : (length t.objects ≡ w.state.limits.slots) × (length t.seen.bodies ≡ w.state.limits.slots)
      × (length t.seen.handles ≡ w.state.limits.slots) × (length t.seen.blocks ≡ w.state.limits.slots)
  -- each is empty or holds one object, as the state says, whose Id is of that slot
  pub slots : (t.objects ≡ w.state.objects) × ((k : ℕ) (o : Object) → Holds t k o → o.id.slot ≡ k)
  -- and the object's body, as the state says; an empty slot has none
  pub bodies : (t.seen.bodies ≡ w.state.bodies) × ((k : ℕ) → slice_index_or t.objects k None ≡ None
      → slice_index_or t.seen.bodies k None ≡ None)
  -- its handle count is the number of table entries that name it
  pub counts : (k : ℕ) (o : Object) → Holds t k o → slice_index_or t.seen.handles k 0 ≡ handles_of w.state o.id
  -- its references are these entries, its places in pending waits, and a hold once there is neither: each as stored,
  -- and their sum
  pub references : (k : ℕ) (o : Object) → Holds t k o
      → (slice_index_or t.seen.blocks k 0 ≡ blocks_of w.state o.id)
      × (hold_in (slice_index_or t.seen.bodies k None) ≡ hold_of w.state o.id)
      × (references_at t k ≡ references_of w.state o.id)
  -- the directory lists the named objects that have handles, each once, and nothing else
  pub directory : ((name : ObjectName) (id : Id) → Contains t.rows (name, id) ↔ IsOpenByName w.state name id)
      × AreDistinct t.rows
  -- the keeper published each object's Id with its descriptor
  pub published : IsListed w.keeper.published t.objects
