-- The body of an object: when it is signaled for a thread, and what each call makes of it. A later kind adds a line
-- where it isn't as most are. All are total: on another kind a call's word leaves the body, which no call reaches, by
-- its condition.
use Rattle.std.specs.Prelude.{ℕ, Bool, true, false, Option, None, Result, Err}
use Rattle.ob_rights.specs.declared.fault.Fault.{Fault}
use Rattle.ob_rights.specs.declared.fault.Fault.TheVariants as fault
use Rattle.ob_rights.specs.declared.kind.Kind.{Kind}
use Rattle.ob_rights.specs.declared.kind.Kind.TheVariants as kind
use Rattle.ob_body.specs.declared.body.Body.{Body}
use Rattle.ob_body.specs.declared.body.Body.TheVariants.{Event, Mutex, Semaphore, Timer, Host}
use Rattle.ob_body.specs.Event as event
use Rattle.ob_body.specs.Mutex as mutex
use Rattle.ob_body.specs.Semaphore as semaphore
use Rattle.ob_body.specs.Timer as timer

abbrev pub kind_of : Body → Kind
kind_of (Event e) = kind.Event
kind_of (Mutex m) = kind.Mutex
kind_of (Semaphore s) = kind.Semaphore
kind_of (Timer t) = kind.Timer
kind_of (Host h) = kind.Host h.object_type

-- whether it is an event, or a host's object, which is signaled and reset as an event is
abbrev pub is_settable : Body → Bool
is_settable (Event e) = true
is_settable (Host h) = true
is_settable body = false

-- whether a wait of the thread may take it
abbrev pub is_signaled : ℕ → Body → Bool
is_signaled thread (Event e) = e.set
is_signaled thread (Mutex m) = mutex.is_signaled thread m
is_signaled thread (Semaphore s) = semaphore.is_signaled s
is_signaled thread (Timer t) = t.signaled
is_signaled thread (Host h) = h.event.set

-- whether it is a mutex whose owner ended
abbrev pub is_abandoned : Body → Bool
is_abandoned (Mutex m) = m.abandoned
is_abandoned body = false

-- whether the thread may take it once more: not where it owns a mutex as often as the limit lets
abbrev pub has_room : ℕ → ℕ → Body → Bool
has_room limit thread (Mutex m) = mutex.has_room limit thread m
has_room limit thread body = true

-- after a wait of the thread took it
abbrev pub after_acquire : ℕ → Body → Body
after_acquire thread (Event e) = Event (event.after_acquire e)
after_acquire thread (Mutex m) = Mutex (mutex.after_acquire thread m)
after_acquire thread (Semaphore s) = Semaphore (semaphore.after_acquire s)
after_acquire thread (Timer t) = Timer (timer.after_acquire t)
after_acquire thread (Host h) = Host (record h { event = event.after_acquire h.event })

abbrev pub after_set : Body → Body
after_set (Event e) = Event (event.after_set e)
after_set (Host h) = Host (record h { event = event.after_set h.event })
after_set body = body

abbrev pub after_reset : Body → Body
after_reset (Event e) = Event (event.after_reset e)
after_reset (Host h) = Host (record h { event = event.after_reset h.event })
after_reset body = body

-- the answer to a release of a semaphore by a count, and what it leaves
abbrev pub post_answer : ℕ → Body → Result ℕ Fault
post_answer count (Semaphore s) = semaphore.post_answer count s
post_answer count body = Err fault.Handle

abbrev pub after_post : ℕ → Body → Body
after_post count (Semaphore s) = Semaphore (semaphore.after_post count s)
after_post count body = body

-- the answer to a thread's release of a mutex, and what it leaves
abbrev pub unlock_answer : ℕ → Body → Result (Unit {0}) Fault
unlock_answer thread (Mutex m) = mutex.unlock_answer thread m
unlock_answer thread body = Err fault.Handle

abbrev pub after_unlock : ℕ → Body → Body
after_unlock thread (Mutex m) = Mutex (mutex.after_unlock thread m)
after_unlock thread body = body

-- after the thread ended
abbrev pub after_abandon : ℕ → Body → Body
after_abandon thread (Mutex m) = Mutex (mutex.after_abandon thread m)
after_abandon thread body = body

-- after its last handle and its last wait are gone
abbrev pub after_clear_owner : Body → Body
after_clear_owner (Mutex m) = Mutex (mutex.after_clear_owner m)
after_clear_owner body = body

-- the thread that owns it
abbrev pub owner_of : Body → Option ℕ
owner_of (Mutex m) = m.owner
owner_of body = None

-- a timer set to a moment with a period, cancelled, and at a moment that has come; other bodies stay
abbrev pub after_arm : ℕ → ℕ → ℕ → Body → Body
after_arm due now period (Timer t) = Timer (timer.after_arm due now period t)
after_arm due now period body = body

abbrev pub after_disarm : Body → Body
after_disarm (Timer t) = Timer (timer.after_disarm t)
after_disarm body = body

abbrev pub after_fire : ℕ → Body → Body
after_fire now (Timer t) = Timer (timer.after_fire now t)
after_fire now body = body

-- the moment at which it becomes signaled
abbrev pub due_of : Body → Option ℕ
due_of (Timer t) = t.due
due_of body = None
