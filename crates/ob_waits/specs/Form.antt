-- What of a body no wait changes, when it is due, and who owns it.
use Rattle.std.specs.Prelude.{◌≡◌, ◌<◌, ℕ, Bool, false, List, Option, Some, None, slice_index_or}
use Rattle.ob_rights.specs.declared.kind.Kind.{Kind}
use Rattle.ob_rights.specs.declared.kind.Kind.TheVariants as kind
use Rattle.ob_body.specs.declared.body.Body.{Body}
use Rattle.ob_body.specs.declared.body.Body.TheVariants.{Event, Mutex, Semaphore, Timer, Host}
use Rattle.ob_body.specs.Body.{due_of, owner_of}
use Rattle.ob_waits.specs.declared.wait.Wait.{Wait}
use Rattle.ob_waits.specs.Rules.{thread_of}

-- its kind, whether an event or a timer is reset by hand, the maximum of a semaphore, and the moment at which a timer
-- is due; a host's object has the form of an event
pub record Form : Type 0 where
  pub kind : Kind
  pub manual : Bool
  pub maximum : ℕ
  pub due : Option ℕ

abbrev pub form_of : Body → Form
form_of (Event e) = record { kind = kind.Event; manual = e.manual; maximum = 0; due = None }
form_of (Mutex m) = record { kind = kind.Mutex; manual = false; maximum = 0; due = None }
form_of (Semaphore s) = record { kind = kind.Semaphore; manual = false; maximum = s.maximum; due = None }
form_of (Timer t) = record { kind = kind.Timer; manual = t.manual; maximum = 0; due = t.due }
form_of (Host h) = record { kind = kind.Event; manual = h.event.manual; maximum = 0; due = None }

abbrev pub slot_form : Option Body → Option Form
slot_form None = None
slot_form (Some b) = Some (form_of b)

-- the moment at which a timer is due
abbrev pub slot_due : Option Body → Option ℕ
slot_due None = None
slot_due (Some b) = due_of b

-- a moment, if there is one, is after another
abbrev pub IsAfter : ℕ → Option ℕ → Type 0
IsAfter clock None = Unit {0}
IsAfter clock (Some due) = clock < due

-- the thread that owns a mutex
abbrev pub slot_owner : Option Body → Option ℕ
slot_owner None = None
slot_owner (Some b) = owner_of b

-- some wait is the thread's
abbrev pub HasWait : ℕ → List (Option Wait) → Type 0
HasWait thread waits = (n : ℕ) × (thread_of (slice_index_or waits n None) ≡ Some thread)
