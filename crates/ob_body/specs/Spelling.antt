-- Bodies as bytes: a tag for the kind, and what each kind has.
use Rattle.std.specs.Prelude.{◌≡◌, ℕ, zero, suc, ◌<◌, ◌^◌, nat_lt, nat_le, ◌==◌, ◌&&◌, not, Bool, true, List, ◌∷◌, ◌++◌, Option, Some, None, Err, if◌then◌else◌}
use Rattle.std.specs.Int.{w32, w64, to_le_bytes}
use Rattle.ob_codec.specs.declared.fault.TextFault.TheVariants.{Tag}
use Rattle.ob_codec.specs.Reading.{Read, as_at, both_at, flag_at, number_at, option_at, some_at, tagged_at}
use Rattle.ob_codec.specs.Spelling.{Any, BothFit, OptionFits, both, flag, option}
use Rattle.ob_body.specs.declared.body.Body.{Body}
use Rattle.ob_body.specs.declared.body.Body.TheVariants as body
use Rattle.ob_body.specs.declared.event.Event.{Event}
use Rattle.ob_body.specs.declared.host_object.HostObject.{HostObject}
use Rattle.ob_body.specs.MutexState.{MutexState}
use Rattle.ob_body.specs.MutexState as mutex
use Rattle.ob_body.specs.SemaphoreState.{SemaphoreState}
use Rattle.ob_body.specs.SemaphoreState as semaphore
use Rattle.ob_body.specs.TimerState.{TimerState, is_possible}

-- a number of four bytes
abbrev pub is_four : ℕ → Type 0
is_four n = n < 2 ^ 32

-- an event: whether it is reset by hand, whether it is set
abbrev pub event_of : Bool × Bool → Event
event_of p = record { manual = p.0; set = p.1 }

abbrev pub event_parts : Event → Bool × Bool
event_parts e = (e.manual, e.set)

abbrev pub event_text : Event → List ℕ
event_text e = both flag flag (event_parts e)

abbrev pub event_at : List ℕ → Read Event
event_at = as_at event_of (both_at flag_at flag_at)

abbrev pub EventFits : Event → Type 0
EventFits e = BothFit Any Any (event_parts e)

-- a host's object: its type, in four bytes, and what an event has
abbrev pub host_of : ℕ × Event → Option HostObject
host_of p = if nat_lt p.0 256 then Some (record { object_type = p.0; event = p.1 }) else None

abbrev pub host_parts : HostObject → ℕ × Event
host_parts h = (h.object_type, h.event)

abbrev pub host_text : HostObject → List ℕ
host_text h = both (to_le_bytes w32) event_text (host_parts h)

abbrev pub host_at : List ℕ → Read HostObject
host_at = some_at host_of (both_at (number_at w32) event_at)

abbrev pub HostFits : HostObject → Type 0
HostFits h = (h.object_type < 256) × EventFits h.event

-- a timer: whether it is reset by hand, whether it is signaled, its due moment
abbrev pub timer_parts : TimerState → Bool × (Bool × Option ℕ)
timer_parts t = (t.manual, (t.signaled, t.due))

abbrev pub PartsFit : Bool × (Bool × Option ℕ) → Type 0
PartsFit = BothFit Any (BothFit Any (OptionFits (λ n. n < 2 ^ 64)))

abbrev pub timer_text : TimerState → List ℕ
timer_text t = both flag (both flag (option (to_le_bytes w64))) (timer_parts t)

abbrev pub parts_at : List ℕ → Read (Bool × (Bool × Option ℕ))
parts_at = both_at flag_at (both_at flag_at (option_at (number_at w64)))

abbrev pub timer_of : ℕ → Bool × (Bool × Option ℕ) → Option TimerState
timer_of period p = if is_possible p.1.0 p.1.1 period then Some (record {
  manual = p.0;
  signaled = p.1.0;
  due = p.1.1;
  period = period;
}) else None

abbrev pub TimerFits : TimerState → Type 0
TimerFits t = PartsFit (timer_parts t) × (t.period < 2 ^ 32) × (is_possible t.signaled t.due t.period ≡ true)

-- so a timer without a period is read
abbrev pub timer_at : List ℕ → Read TimerState
timer_at = some_at (timer_of 0) parts_at

-- and so one with a period, whose milliseconds stand behind the rest, in four bytes
abbrev pub periodic_parts : TimerState → (Bool × (Bool × Option ℕ)) × ℕ
periodic_parts t = (timer_parts t, t.period)

abbrev pub periodic_text : TimerState → List ℕ
periodic_text t = timer_text t ++ to_le_bytes w32 t.period

abbrev pub periodic_of : (Bool × (Bool × Option ℕ)) × ℕ → Option TimerState
periodic_of p = if p.1 == 0 then None else timer_of p.1 p.0

abbrev pub periodic_at : List ℕ → Read TimerState
periodic_at = some_at periodic_of (both_at parts_at (number_at w32))

-- a semaphore: its count, its maximum
abbrev pub may_count : ℕ → ℕ → Bool
may_count count maximum = nat_lt 0 maximum && (nat_le count maximum && nat_le maximum 2147483647)

abbrev pub semaphore_of : ℕ × ℕ → Option SemaphoreState
semaphore_of p = if may_count p.0 p.1 then Some (record { count = p.0; maximum = p.1 }) else None

abbrev pub semaphore_parts : SemaphoreState → ℕ × ℕ
semaphore_parts s = (s.count, s.maximum)

abbrev pub semaphore_text : SemaphoreState → List ℕ
semaphore_text s = both (to_le_bytes w32) (to_le_bytes w32) (semaphore_parts s)

abbrev pub semaphore_at : List ℕ → Read SemaphoreState
semaphore_at = some_at semaphore_of (both_at (number_at w32) (number_at w32))

abbrev pub SemaphoreFits : SemaphoreState → Type 0
SemaphoreFits s = semaphore.IsPossible s.count s.maximum

-- a mutex: its owner, how many times it owns it, whether it is abandoned
abbrev pub may_own : Option ℕ → ℕ → Bool → Bool
may_own None recursion abandoned = recursion == 0
may_own (Some owner) recursion abandoned = nat_lt 0 recursion && (nat_le recursion 2147483647 && not abandoned)

abbrev pub mutex_of : Option ℕ × (ℕ × Bool) → Option MutexState
mutex_of p = if may_own p.0 p.1.0 p.1.1 then Some (record {
  owner = p.0;
  recursion = p.1.0;
  abandoned = p.1.1;
}) else None

abbrev pub mutex_parts : MutexState → Option ℕ × (ℕ × Bool)
mutex_parts m = (m.owner, (m.recursion, m.abandoned))

abbrev pub mutex_text : MutexState → List ℕ
mutex_text m = both (option (to_le_bytes w32)) (both (to_le_bytes w32) flag) (mutex_parts m)

abbrev pub mutex_at : List ℕ → Read MutexState
mutex_at = some_at mutex_of (both_at (option_at (number_at w32)) (both_at (number_at w32) flag_at))

abbrev pub MutexFits : MutexState → Type 0
MutexFits m = OptionFits is_four m.owner × mutex.IsPossible m.owner m.recursion m.abandoned

-- the tag of each kind, and what stands behind it: a timer with a period has a tag of its own
abbrev pub tag_of : Body → ℕ
tag_of (body.Event e) = 0
tag_of (body.Mutex m) = 1
tag_of (body.Semaphore s) = 2
tag_of (body.Timer t) = if t.period == 0 then 3 else 5
tag_of (body.Host h) = 4

abbrev pub parts_text : Body → List ℕ
parts_text (body.Event e) = event_text e
parts_text (body.Mutex m) = mutex_text m
parts_text (body.Semaphore s) = semaphore_text s
parts_text (body.Timer t) = if t.period == 0 then timer_text t else periodic_text t
parts_text (body.Host h) = host_text h

abbrev pub body_text : Body → List ℕ
body_text b = tag_of b ∷ parts_text b

unfoldable pub body_in : ℕ → List ℕ → Read Body
body_in zero rest = as_at body.Event event_at rest
body_in (suc zero) rest = as_at body.Mutex mutex_at rest
body_in (suc (suc zero)) rest = as_at body.Semaphore semaphore_at rest
body_in (suc (suc (suc zero))) rest = as_at body.Timer timer_at rest
body_in (suc (suc (suc (suc zero)))) rest = as_at body.Host host_at rest
body_in (suc (suc (suc (suc (suc zero))))) rest = as_at body.Timer periodic_at rest
body_in (suc (suc (suc (suc (suc (suc t)))))) rest = Err Tag

abbrev pub body_at : List ℕ → Read Body
body_at = tagged_at body_in

abbrev pub BodyFits : Body → Type 0
BodyFits (body.Event e) = EventFits e
BodyFits (body.Mutex m) = MutexFits m
BodyFits (body.Semaphore s) = SemaphoreFits s
BodyFits (body.Timer t) = TimerFits t
BodyFits (body.Host h) = HostFits h
