-- The waits and the threads of a save beside its objects: which can be there, and the blocks that are counted.
use Rattle.std.specs.Prelude.{ℕ, ◌&&◌, not, Bool, true, List, map, Option, Some, None, is_some, slice_index_or, slice_set}
use Rattle.std.specs.List.{list_all}
use Rattle.pin_core.specs.declared.id.Id.{Id}
use Rattle.ob_body.specs.declared.body.Body.{Body}
use Rattle.ob_waits.specs.Form.{slot_owner}
use Rattle.ob_waits.specs.CountedBodies.{body_of, slot_room}
use Rattle.ob_waits.specs.Waits.{blocks_among, list_ready, number_of}
use Rattle.ob_waits.specs.declared.wait.State.{State}
use Rattle.ob_waits.specs.declared.wait.State.TheVariants.{Pending, Answered}
use Rattle.ob_waits.specs.declared.wait.Wait.{Wait}
use Rattle.ob_store.specs.Counting.{is_its}
use Rattle.ob_store.specs.Objects.{Object, ObjectsState, Places}
use Rattle.ob_tables.specs.SavedProcesses.{is_of_live}

-- how many places of pending waits name an object
abbrev pub object_blocks : List (Option Wait) → Option Object → ℕ
object_blocks waits None = 0
object_blocks waits (Some o) = blocks_among o.id waits

-- the blocks of all objects, counted
abbrev pub with_blocks : List (Option Wait) → Places → Places
with_blocks waits p = record p { seen = record p.seen { blocks = map (object_blocks waits) p.objects } }

-- those of one slot
abbrev pub with_blocks_at : Places → ℕ → ℕ → Places
with_blocks_at p slot blocks = record p {
  seen = record p.seen { blocks = slice_set p.seen.blocks slot blocks };
}

-- whether a thread may wait for the object of an Id: it is there, and has room for the thread
abbrev pub may_wait_for : ℕ → ObjectsState → ℕ → Id → Bool
may_wait_for limit s thread id =
    is_its id (slice_index_or s.objects id.slot None) && slot_room limit thread (body_of s.seen.bodies id)

-- whether a wait can stand so: the thread of one that is pending may wait for its objects, and it isn't satisfied
abbrev pub state_stands : ℕ → ObjectsState → ℕ → State → Bool
state_stands limit s thread (Pending mode ids) =
    list_all (may_wait_for limit s thread) ids && not (list_ready mode thread s.seen.bodies ids)
state_stands limit s thread (Answered code) = true

-- whether a wait can be there: its thread is live
abbrev pub wait_stands : ℕ → List (Option ℕ) → ObjectsState → Option Wait → Bool
wait_stands limit threads s None = true
wait_stands limit threads s (Some wait) =
    is_some (slice_index_or threads wait.thread None) && state_stands limit s wait.thread wait.state

abbrev pub waits_stand : ℕ → List (Option ℕ) → List (Option Wait) → ObjectsState → Bool
waits_stand limit threads waits s = list_all (wait_stands limit threads s) waits

-- whether a mutex has no owner, or a live one
abbrev pub owner_stands : List (Option ℕ) → Option Body → Bool
owner_stands threads body = is_of_live threads (slot_owner body)

abbrev pub owners_stand : List (Option ℕ) → ObjectsState → Bool
owners_stand threads s = list_all (owner_stands threads) s.seen.bodies

-- whether the waits and the owners of mutexes can be there
abbrev pub all_stand : ℕ → List (Option ℕ) → List (Option Wait) → ObjectsState → Bool
all_stand limit threads waits s = waits_stand limit threads waits s && owners_stand threads s

-- the wait of a number, if there is one, and that of a thread
abbrev pub numbered : List (Option Wait) → Option ℕ → Option Wait
numbered waits None = None
numbered waits (Some number) = slice_index_or waits number None

abbrev pub wait_of : ℕ → List (Option Wait) → Option Wait
wait_of thread waits = numbered waits (number_of thread waits)
