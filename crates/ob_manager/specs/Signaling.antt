-- Setting and resetting events, releasing semaphores and mutexes, and signaling objects of the host's own.
use Rattle.std.specs.Prelude.{ℕ, Bool, if◌then◌else◌, Option, Some, None, Result, Ok, Err, ℤ, slice_index_or}
use Rattle.pin_core.specs.declared.id.Id.{Id}
use Rattle.ob_rights.specs.declared.fault.Fault.{Fault}
use Rattle.ob_rights.specs.declared.fault.Fault.TheVariants as fault
use Rattle.ob_rights.specs.declared.kind.Kind.{Kind}
use Rattle.ob_rights.specs.declared.kind.Kind.TheVariants as kind
use Rattle.ob_body.specs.declared.body.Body.{Body}
use Rattle.ob_body.specs.declared.body.Body.TheVariants as body
use Rattle.ob_body.specs.Body.{after_set, after_reset, after_post, after_unlock, post_answer, unlock_answer}
use Rattle.ob_manager.specs.declared.reply.Reply.TheVariants.{Done, Previous}
use Rattle.ob_store.specs.State.{State, settled, with_body}
use Rattle.ob_manager.specs.Outcomes.{Outcome, ◌>>=◌, or_refuse}
use Rattle.ob_manager.specs.Checks.{caller, found, body_of, granted, positive}
use Rattle.ob_manager.specs.Counting.{object_of}

-- the right MODIFY_STATE
abbrev pub modify_state : ℕ
modify_state = 2

-- the object of a handle that has it, with its body
abbrev pub modified : State → ℕ → ℕ → Kind → Result (Id × Body) Fault
modified s thread handle kind = do
  process ← caller s thread
  entry ← found s process handle
  body ← body_of s entry.id kind
  _ ← granted modify_state entry
  Ok (entry.id, body)

-- a call that has that body become another
abbrev pub modify : State → ℕ → ℕ → Kind → (Body → Body) → Result Outcome Fault
modify s thread handle kind after = do
  object ← modified s thread handle kind
  Ok (record { reply = Done; state = settled (with_body s object.0 (after object.1)) })

abbrev pub set_event : State → ℕ → ℕ → Result Outcome Fault
set_event s thread handle = modify s thread handle kind.Event after_set

abbrev pub reset_event : State → ℕ → ℕ → Result Outcome Fault
reset_event s thread handle = modify s thread handle kind.Event after_reset

-- an event is set, the waits settle, and then it is reset
abbrev pub reset_at : State → Id → Option Body → State
reset_at s id (Some (body.Event e)) = settled (with_body s id (after_reset (body.Event e)))
reset_at s id other = s

abbrev pub pulse_event : State → ℕ → ℕ → Result Outcome Fault
pulse_event s thread handle = do
  object ← modified s thread handle kind.Event
  let set = settled (with_body s object.0 (after_set object.1))
  Ok (record { reply = Done; state = reset_at set object.0 (slice_index_or set.bodies object.0.slot None) })

abbrev pub release_semaphore : State → ℕ → ℕ → ℤ → Result Outcome Fault
release_semaphore s thread handle count = do
  process ← caller s thread
  more ← or_refuse (positive count) fault.Parameter
  entry ← found s process handle
  semaphore ← body_of s entry.id kind.Semaphore
  _ ← granted modify_state entry
  previous ← post_answer more semaphore
  Ok (record { reply = Previous previous; state = settled (with_body s entry.id (after_post more semaphore)) })

-- releasing a mutex needs no right
abbrev pub release_mutex : State → ℕ → ℕ → Result Outcome Fault
release_mutex s thread handle = do
  process ← caller s thread
  entry ← found s process handle
  mutex ← body_of s entry.id kind.Mutex
  _ ← unlock_answer thread mutex
  Ok (record { reply = Done; state = settled (with_body s entry.id (after_unlock thread mutex)) })

-- the body of a host's object, else 6
abbrev pub if_host : Option Body → Result Body Fault
if_host (Some (body.Host h)) = Ok (body.Host h)
if_host other = Err fault.Handle

abbrev pub host_of : State → Id → Result Body Fault
host_of s id = do
  _ ← or_refuse (object_of s id) fault.Handle
  if_host (slice_index_or s.bodies id.slot None)

-- the host signals an object of its own by its Id, or resets it: it needs no handle and no right
abbrev pub signal_host : State → Id → Bool → Result Outcome Fault
signal_host s id signaled = do
  host ← host_of s id
  let after : Body = if signaled then after_set host else after_reset host in
      Ok (record { reply = Done; state = settled (with_body s id after) })
