-- The tests that calls share. A call makes them in the order of its lines, and the first that fails is its refusal.
use Rattle.std.specs.Prelude.{ℕ, zero, suc, ◌==◌, ◌&&◌, Bool, true, false, not, Option, Some, None, Result, Ok, Err, if◌then◌else◌, is_some, slice_index_or, ℤ, pos, negsuc}
use Rattle.pin_core.specs.declared.id.Id.{Id}
use Rattle.ob_rights.specs.declared.fault.Fault.{Fault}
use Rattle.ob_rights.specs.declared.fault.Fault.TheVariants as fault
use Rattle.ob_rights.specs.declared.kind.Kind.{Kind}
use Rattle.ob_rights.specs.declared.kind.Kind.TheVariants.{Event, Mutex, Semaphore, Timer, Host}
use Rattle.ob_rights.specs.declared.rights.Rights.{Rights}
use Rattle.ob_rights.specs.Rights.{within}
use Rattle.ob_body.specs.declared.body.Body.{Body}
use Rattle.ob_body.specs.Body.{kind_of}
use Rattle.ob_tables.specs.declared.entry.Entry.{Entry}
use Rattle.ob_tables.specs.Table.{entry_at}
use Rattle.ob_tables.specs.Tables.{table_of}
use Rattle.ob_waits.specs.Waits.{number_of}
use Rattle.ob_store.specs.State.{State}
use Rattle.ob_manager.specs.Outcomes.{◌>>=◌, or_refuse, refuse_if}

-- whether the thread has a wait, pending or answered
abbrev pub is_busy : State → ℕ → Bool
is_busy s thread = is_some (number_of thread s.waits)

-- the process of a thread that makes a call in its own name: 87 where the thread isn't live, 170 where it has a wait
abbrev pub caller : State → ℕ → Result ℕ Fault
caller s thread = do
  process ← or_refuse (slice_index_or s.threads thread None) fault.Parameter
  _ ← refuse_if (is_busy s thread) fault.Busy
  Ok process

-- the entry of a handle, else 6
abbrev pub found : State → ℕ → ℕ → Result Entry Fault
found s process handle = or_refuse (entry_at (table_of s.tables process) handle) fault.Handle

-- whether two kinds are the same; those of a host's objects where their types are
abbrev pub same_kind : Kind → Kind → Bool
same_kind Event Event = true
same_kind Mutex Mutex = true
same_kind Semaphore Semaphore = true
same_kind Timer Timer = true
same_kind (Host t) (Host u) = t == u
same_kind a b = false

-- the body of an object of a kind, else 6
abbrev pub if_kind : Kind → Option Body → Result Body Fault
if_kind kind None = Err fault.Handle
if_kind kind (Some body) = if same_kind (kind_of body) kind then Ok body else Err fault.Handle

abbrev pub body_of : State → Id → Kind → Result Body Fault
body_of s id kind = if_kind kind (slice_index_or s.bodies id.slot None)

-- a right that the handle was granted, else 5
abbrev pub granted : ℕ → Entry → Result (Unit {0}) Fault
granted right entry = refuse_if (not (within right entry.rights.0)) fault.Access

-- whether an open may have these rights: some, and each within the object's grant
abbrev pub is_allowed : Rights → Rights → Bool
is_allowed asked grant = not (asked.0 == 0) && within asked.0 grant.0

-- a number above 0, and one that isn't below it
abbrev pub positive : ℤ → Option ℕ
positive (pos zero) = None
positive (pos (suc n)) = Some (suc n)
positive (negsuc n) = None

abbrev pub natural : ℤ → Option ℕ
natural (pos n) = Some n
natural (negsuc n) = None
