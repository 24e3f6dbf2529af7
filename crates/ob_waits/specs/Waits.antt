-- Waits for any and for all of some objects: when one is ready, what it takes, and how they settle.
use Rattle.std.specs.Prelude.{ℕ, zero, suc, ◌+◌, ◌-◌, ◌==◌, nat_le, nat_lt, ◌&&◌, ◌||◌, Bool, true, false, List, [], ◌∷◌, ◌++◌, Option, Some, None, if◌then◌else◌, slice_index_or, slice_set, length, map, sum_by, count_by, position, replicate, filter, is_some}
use Rattle.std.specs.List.{position_or_len, list_any, list_all}
use Rattle.pin_core.specs.Holds.{same_id}
use Rattle.pin_core.specs.declared.id.Id.{Id}
use Rattle.ob_body.specs.declared.body.Body.{Body}
use Rattle.ob_waits.specs.declared.wait.Mode.{Mode}
use Rattle.ob_waits.specs.declared.wait.Mode.TheVariants.{Any, All}
use Rattle.ob_waits.specs.declared.wait.Wait.{Wait}
use Rattle.ob_waits.specs.declared.wait.State.{State}
use Rattle.ob_waits.specs.declared.wait.State.TheVariants.{Pending, Answered}
use Rattle.ob_waits.specs.declared.wait.WaitState.{WaitState}
use Rattle.ob_waits.specs.declared.wait.WaitState.TheVariants as shown
use Rattle.ob_waits.specs.CountedBodies.{CountedBodies, body_of, slot_signaled, slot_abandoned, slot_acquired, without_blocks}

-- an Id that names the first slot, where a list has none
abbrev pub nowhere : Id
nowhere = record { slot = 0; generation = 0 }

abbrev pub is_signaled : ℕ → List (Option Body) → Id → Bool
is_signaled thread bodies id = slot_signaled thread (body_of bodies id)

abbrev pub is_abandoned : List (Option Body) → Id → Bool
is_abandoned bodies id = slot_abandoned (body_of bodies id)

-- the index of the first object that is signaled, or the length
abbrev pub first_signaled : ℕ → List (Option Body) → List Id → ℕ
first_signaled thread bodies ids = position_or_len (is_signaled thread bodies) ids

-- some object is signaled, or each is
abbrev pub list_ready : Mode → ℕ → List (Option Body) → List Id → Bool
list_ready Any thread bodies ids = nat_lt (first_signaled thread bodies ids) (length ids)
list_ready All thread bodies ids = list_all (is_signaled thread bodies) ids

-- the bodies after a thread acquired one object, or some together
abbrev pub with_acquired : ℕ → List (Option Body) → Id → List (Option Body)
with_acquired thread bodies id = slice_set bodies id.slot (slot_acquired thread (body_of bodies id))

abbrev pub with_all_acquired : ℕ → List (Option Body) → List Id → List (Option Body)
with_all_acquired thread bodies [] = bodies
with_all_acquired thread bodies (id ∷ ids) = with_all_acquired thread (with_acquired thread bodies id) ids

-- what a wait that is ready takes: the signaled object of least index, or all
abbrev pub bodies_after : Mode → ℕ → List (Option Body) → List Id → List (Option Body)
bodies_after Any thread bodies ids = with_acquired thread bodies
    (slice_index_or ids (first_signaled thread bodies ids) nowhere)
bodies_after All thread bodies ids = with_all_acquired thread bodies ids

-- and the code that it is answered with
abbrev pub code_of : Mode → ℕ → List (Option Body) → List Id → ℕ
code_of Any thread bodies ids =
    let index = first_signaled thread bodies ids in
    index + (if is_abandoned bodies (slice_index_or ids index nowhere) then 128 else 0)
code_of All thread bodies ids = if list_any (is_abandoned bodies) ids then 128 else 0

-- whether a code can be that of an answered wait: an index, an index of which the mutex was abandoned, or that it was
-- ended, by an alert or since its time was up
abbrev pub is_code : ℕ → Bool
is_code code = nat_lt code 64 || ((nat_le 128 code && nat_lt code 192) || (code == 192 || code == 258))

-- what a wait that need not become pending is answered with, and what it leaves
abbrev pub code_now : Mode → ℕ → List (Option Body) → List Id → Option ℕ
code_now mode thread bodies ids = if list_ready mode thread bodies ids then Some
    (code_of mode thread bodies ids) else None

abbrev pub objects_now : Mode → ℕ → CountedBodies → List Id → CountedBodies
objects_now mode thread objects ids =
    if list_ready mode thread objects.bodies ids then record objects {
      bodies =
          bodies_after mode thread objects.bodies ids;
    } else objects

abbrev pub state_ready : ℕ → List (Option Body) → State → Bool
state_ready thread bodies (Pending mode ids) = list_ready mode thread bodies ids
state_ready thread bodies (Answered code) = false

-- whether a wait is pending and satisfied
abbrev pub is_ready : List (Option Body) → Option Wait → Bool
is_ready bodies None = false
is_ready bodies (Some wait) = state_ready wait.thread bodies wait.state

-- the least number of a wait that is ready, or the length
abbrev pub first_ready : List (Option Body) → List (Option Wait) → ℕ
first_ready bodies waits = position_or_len (is_ready bodies) waits

-- the objects and the waits
pub record Scene : Type 0 where
  pub objects : CountedBodies
  pub waits : List (Option Wait)

-- a wait that is answered
abbrev pub answered_wait : Wait → ℕ → Option Wait
answered_wait wait code = Some (record wait { state = Answered code })

-- the objects and waits after a wait took effect: it takes what it is ready for, is answered, and its blocks leave
abbrev pub effect_of : Scene → ℕ → Wait → State → Scene
effect_of scene number wait (Pending mode ids) = record {
  objects = without_blocks (record scene.objects {
    bodies =
        bodies_after mode wait.thread scene.objects.bodies ids;
  }) ids;
  waits = slice_set scene.waits number (answered_wait wait (code_of mode wait.thread scene.objects.bodies ids));
}
effect_of scene number wait (Answered code) = scene

abbrev pub effect_at : Scene → ℕ → Option Wait → Scene
effect_at scene number None = scene
effect_at scene number (Some wait) = effect_of scene number wait wait.state

abbrev pub effect : Scene → ℕ → Scene
effect scene number = effect_at scene number (slice_index_or scene.waits number None)

-- as long as a wait is ready, and at most this often, the one of least number takes effect
abbrev pub settled_within : ℕ → Scene → Scene
settled_within zero scene = scene
settled_within (suc n) scene =
    let number = first_ready scene.objects.bodies scene.waits in
    if nat_lt number (length scene.waits) then settled_within n (effect scene number) else scene

-- as long as a wait is ready, the one of least number takes effect: no more often than there are waits, which is enough
-- (settled_is_settled)
abbrev pub settled : Scene → Scene
settled scene = settled_within (length scene.waits) scene

-- the waits of these numbers, in this order, take effect where they are ready when their turn comes
abbrev pub passed : List ℕ → Scene → Scene
passed [] scene = scene
passed (n ∷ ns) scene = if is_ready scene.objects.bodies (slice_index_or scene.waits n None) then passed ns
    (effect scene n) else passed ns scene

-- whether a wait is pending
abbrev pub state_pending : State → Bool
state_pending (Pending mode ids) = true
state_pending (Answered code) = false

abbrev pub is_pending : Option Wait → Bool
is_pending None = false
is_pending (Some wait) = state_pending wait.state

-- the objects that a wait is for: none once it is answered
abbrev pub state_ids : State → List Id
state_ids (Pending mode ids) = ids
state_ids (Answered code) = []

abbrev pub ids_of : Option Wait → List Id
ids_of None = []
ids_of (Some wait) = state_ids wait.state

-- whether one of some objects is in a slot
abbrev pub has_slot : List Id → ℕ → Bool
has_slot ids slot = list_any (λ (id : Id). id.slot == slot) ids

-- whether a pending wait names a slot
abbrev pub names_slot : ℕ → Option Wait → Bool
names_slot slot wait = has_slot (ids_of wait) slot

-- how many places of pending waits name an object
abbrev pub blocks_in : Id → Option Wait → ℕ
blocks_in id wait = count_by (same_id id) (ids_of wait)

abbrev pub blocks_among : Id → List (Option Wait) → ℕ
blocks_among id waits = sum_by (blocks_in id) waits

-- how many places name a slot, of a list and of the pending waits
abbrev pub slot_places : ℕ → List Id → ℕ
slot_places k ids = count_by (λ (id : Id). id.slot == k) ids

abbrev pub slot_blocks : ℕ → List (Option Wait) → ℕ
slot_blocks k waits = sum_by (λ (w : Option Wait). slot_places k (ids_of w)) waits

-- whether a wait is the thread's
abbrev pub is_waits_of : ℕ → Option Wait → Bool
is_waits_of thread None = false
is_waits_of thread (Some wait) = wait.thread == thread

-- the number of the thread's wait, pending or answered
abbrev pub number_of : ℕ → List (Option Wait) → Option ℕ
number_of thread waits = position (is_waits_of thread) waits

-- the objects that the thread's wait is for
abbrev pub numbered_ids : List (Option Wait) → Option ℕ → List Id
numbered_ids waits None = []
numbered_ids waits (Some number) = ids_of (slice_index_or waits number None)

abbrev pub thread_ids : ℕ → List (Option Wait) → List Id
thread_ids thread waits = numbered_ids waits (number_of thread waits)

-- the waits by their numbers, from 0, which is never given; how many numbers may be given; and the moment that it is. A
-- wait that is over is none, so the next number is the length of the list
pub record WaitList : Type 0 where
  pub limit : ℕ
  pub waits : List (Option Wait)
  pub clock : ℕ

-- whether all numbers are given
abbrev pub is_full : WaitList → Bool
is_full list = nat_lt list.limit (length list.waits)

-- a wait that becomes pending
abbrev pub new_wait : ℕ → Mode → List Id → Option ℕ → Wait
new_wait thread mode ids deadline = record { thread = thread; deadline = deadline; state = Pending mode ids }

-- the waits with one more, which has the next number
abbrev pub with_wait : WaitList → ℕ → Mode → List Id → Option ℕ → WaitList
with_wait list thread mode ids deadline = record list {
  waits =
      list.waits ++ Some (new_wait thread mode ids deadline) ∷ [];
}

-- the waits where the next numbers, up to this one, are given to nobody
abbrev pub skipped : ℕ → List (Option Wait) → List (Option Wait)
skipped last waits = waits ++ replicate (last + 1 - length waits) None

-- the waits that aren't over, in their order
abbrev pub standing : List (Option Wait) → List (Option Wait)
standing waits = filter is_some waits

-- the same at the numbers from 1 on: 0 is never given
abbrev pub renewed : List (Option Wait) → List (Option Wait)
renewed waits = None ∷ standing waits

abbrev pub with_renewed : WaitList → WaitList
with_renewed list = record list { waits = renewed list.waits }

-- the waits with one more, which is answered
abbrev pub with_answered : WaitList → ℕ → Option ℕ → ℕ → WaitList
with_answered list thread deadline code = record list {
  waits =
      list.waits ++ Some (record { thread = thread; deadline = deadline; state = Answered code }) ∷ [];
}

-- the wait of a number, answered
abbrev pub answered : Option Wait → ℕ → Option Wait
answered None code = None
answered (Some wait) code = answered_wait wait code

abbrev pub with_answer : WaitList → ℕ → ℕ → WaitList
with_answer list number code = record list {
  waits =
      slice_set list.waits number (answered (slice_index_or list.waits number None) code);
}

-- the waits without the one of a number
abbrev pub without_wait : WaitList → ℕ → WaitList
without_wait list number = record list { waits = slice_set list.waits number None }

-- the waits without the thread's
abbrev pub unless_of : ℕ → Option Wait → Option Wait
unless_of thread wait = if is_waits_of thread wait then None else wait

abbrev pub without_thread : WaitList → ℕ → WaitList
without_thread list thread = record list { waits = map (unless_of thread) list.waits }

-- the code of a wait that is answered
abbrev pub state_code : State → Option ℕ
state_code (Pending mode ids) = None
state_code (Answered code) = Some code

abbrev pub code_at : Option Wait → Option ℕ
code_at None = None
code_at (Some wait) = state_code wait.state

-- where a wait stands
abbrev pub state_shown : State → WaitState
state_shown (Pending mode ids) = shown.Pending
state_shown (Answered code) = shown.Answered code

abbrev pub state_at : Option Wait → Option WaitState
state_at None = None
state_at (Some wait) = Some (state_shown wait.state)

-- whether that is an answer
abbrev pub is_answer : Option WaitState → Bool
is_answer None = false
is_answer (Some shown.Pending) = false
is_answer (Some (shown.Answered code)) = true
