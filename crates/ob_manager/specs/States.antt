-- What state an object is in.
use Rattle.std.specs.Prelude.{Option, Some, None, slice_index_or}
use Rattle.pin_core.specs.declared.id.Id.{Id}
use Rattle.ob_body.specs.declared.body.Body.{Body}
use Rattle.ob_body.specs.declared.body.Body.TheVariants as body
use Rattle.ob_manager.specs.declared.object_state.ObjectState.{ObjectState}
use Rattle.ob_manager.specs.declared.object_state.ObjectState.TheVariants.{Event, Mutex, Semaphore, Timer, Host, Ended}
use Rattle.ob_store.specs.Objects.{Object}
use Rattle.ob_store.specs.State.{State}
use Rattle.ob_manager.specs.Counting.{object_of}

-- an object without a body has ended
abbrev pub state_of_body : Option Body → ObjectState
state_of_body None = Ended
state_of_body (Some (body.Event e)) = Event e.set
state_of_body (Some (body.Mutex m)) = Mutex m.owner m.recursion m.abandoned
state_of_body (Some (body.Semaphore s)) = Semaphore s.count s.maximum
state_of_body (Some (body.Timer t)) = Timer t.signaled t.due
state_of_body (Some (body.Host h)) = Host h.object_type h.event.set

abbrev pub state_in : Option Object → Option Body → Option ObjectState
state_in None body = None
state_in (Some o) body = Some (state_of_body body)

abbrev pub state_of : State → Id → Option ObjectState
state_of s id = state_in (object_of s id) (slice_index_or s.bodies id.slot None)
