-- What C is told of what there is.
use Rattle.std.specs.Prelude.{◌≡◌, ◌+◌, ◌<◌, ◌≤◌, ℕ, nat_lt, IfSome, Bool, true, false, is_none, is_some, List, ◌++◌, ◌⊎◌, Option, Some, None, Result, Ok, Err, drop, length, map}
use Rattle.std.specs.Option.{option_map}
use Rattle.least.specs.Dues.{IsLeast}
use Rattle.least.specs.From.{IsLeastFrom}
use Rattle.ob_rights.specs.Fault.{code_of}
use Rattle.ob_rights.specs.declared.fault.Fault.{Fault}
use Rattle.pin_core.specs.declared.id.Id.{Id}
use Rattle.ob_tables.specs.declared.entry.Entry.{Entry}
use Rattle.ob_tables.specs.Table.{entry_at}
use Rattle.ob_tables.specs.Tables.{table_of}
use Rattle.ob_waits.specs.declared.wait.Mode.{Mode}
use Rattle.ob_waits.specs.declared.wait.Mode.TheVariants.{Any, All}
use Rattle.ob_waits.specs.declared.wait.State.{State as WaitsState}
use Rattle.ob_waits.specs.declared.wait.State.TheVariants.{Pending, Answered}
use Rattle.ob_waits.specs.declared.wait.Wait.{Wait}
use Rattle.ob_store.specs.Dues.{dues_of}
use Rattle.ob_store.specs.Kept.{IsThere}
use Rattle.ob_store.specs.declared.room.Room.{Room}
use Rattle.ob_store.specs.State.{State}
use Rattle.ob_store.specs.Walking.{is_object_at, is_value_of}
use Rattle.ob_manager.specs.States.{state_of}
use Rattle.ob_manager.specs.declared.object_state.ObjectState.{ObjectState}
use Rattle.ob_manager.specs.declared.object_state.ObjectState.TheVariants.{Event, Mutex, Semaphore, Timer, Host, Ended}
use Rattle.obman_c.specs.declared.looking.HandleEntry.{HandleEntry}
use Rattle.obman_c.specs.declared.looking.PendingWait.{PendingWait}
use Rattle.obman_c.specs.declared.looking.CObjectState.{CObjectState}
use Rattle.obman_c.specs.declared.looking.CRoom.{CRoom}
use Rattle.obman_c.specs.declared.values.Object.{Object}
use Rattle.obman_c.specs.Telling.{object_of}

-- a number, or 0 for none
abbrev pub or_zero : Option ℕ → ℕ
or_zero None = 0
or_zero (Some n) = n

-- the state of no object: each number 0, and 4 in place of a kind
abbrev pub ended : CObjectState
ended = record {
  due = 0;
  kind = 4;
  count = 0;
  max = 0;
  owner = 0;
  signaled = false;
  abandoned = false;
  has_due = false;
}

-- what state an object is in, by its kind; what the kind hasn't is 0
abbrev pub c_object_state_of : ObjectState → CObjectState
c_object_state_of (Event set) = record ended { kind = 0; signaled = set }
c_object_state_of (Mutex owner recursion abandoned) = record ended {
  kind = 1;
  count = recursion;
  owner = or_zero owner;
  signaled = is_none owner;
  abandoned = abandoned;
}
c_object_state_of (Semaphore count max) = record ended { kind = 2; count = count; max = max; signaled = nat_lt 0 count }
c_object_state_of (Timer signaled due) = record ended {
  kind = 3;
  due = or_zero due;
  signaled = signaled;
  has_due = is_some due;
}
c_object_state_of (Host object_type signaled) = record ended { kind = 256 + object_type; signaled = signaled }
c_object_state_of Ended = ended

-- what can still come
abbrev pub c_room : Room → CRoom
c_room room = record {
  slots = room.slots;
  processes = room.processes;
  threads = room.threads;
  handles = room.handles;
  waits = room.waits;
}

-- at its place and 0, or 6, and the place as it was
abbrev pub TellsState : Option ObjectState → ℕ → CObjectState → CObjectState → Type 0
TellsState (Some state) status before after = (status ≡ 0) × (after ≡ c_object_state_of state)
TellsState None status before after = (status ≡ 6) × (after ≡ before)

-- the same of what a handle names, or a refusal's number
abbrev pub TellsStateOf : State → Result Entry Fault → ℕ → CObjectState → CObjectState → Type 0
TellsStateOf s (Ok entry) status before after = TellsState (state_of s entry.id) status before after
TellsStateOf s (Err fault) status before after = (status ≡ code_of fault) × (after ≡ before)

-- a handle with what it names
abbrev pub handle_entry : ℕ × Entry → HandleEntry
handle_entry found = record {
  object = object_of found.1.id;
  handle = found.0;
  access = found.1.rights.0;
  flags = found.1.flags.0;
}

-- a handle's entry at its place and 0, or a refusal's number, and the place as it was
abbrev pub FindsEntry : ℕ → Result Entry Fault → ℕ → HandleEntry → HandleEntry → Type 0
FindsEntry handle (Ok entry) status before after = (status ≡ 0) × (after ≡ handle_entry (handle, entry))
FindsEntry handle (Err fault) status before after = (status ≡ code_of fault) × (after ≡ before)

-- what a walk comes to next at its place and 0, or 259 behind the last, and the place as it was
abbrev pub Walks : {X V : Type 0} → (X → V) → Option X → ℕ → V → V → Type 0
Walks value_of (Some found) status before after = (status ≡ 0) × (after ≡ value_of found)
Walks value_of None status before after = (status ≡ 259) × (after ≡ before)

-- the object in the least slot with one, from one on
pub record NextObject (s : State) (from status : ℕ) (before after : Object) : Type 0 where
  pub found : Option Id
  pub least : IsLeastFrom from (is_object_at s) (option_map (λ id. id.slot) found)
  pub object : IfSome found (λ id. IsThere s.objects id)
  pub told : Walks object_of found status before after

-- the handle of least value behind one that a process has
pub record NextHandle (s : State) (process behind status : ℕ) (before after : HandleEntry) : Type 0 where
  pub found : Option (ℕ × Entry)
  pub least : IsLeastFrom (behind + 1) (is_value_of s process) (option_map (λ handle. handle.0) found)
  pub entry : IfSome found (λ handle. entry_at (table_of s.tables process) handle.0 ≡ Some handle.1)
  pub told : Walks handle_entry found status before after

-- the least moment at which something is due
pub record NextDue (s : State) (status before after : ℕ) : Type 0 where
  pub found : Option ℕ
  pub least : IsLeast (dues_of s) found
  pub told : Walks (λ moment. moment) found status before after

-- a session at its place and 0, or 87 for a process that isn't live, and the place as it was
abbrev pub SessionTold : Option ℕ → ℕ → ℕ → ℕ → Type 0
SessionTold (Some session) status before after = (status ≡ 0) × (after ≡ session)
SessionTold None status before after = (status ≡ 87) × (after ≡ before)

-- whether all objects together satisfy a wait
abbrev pub is_for_all : Mode → Bool
is_for_all Any = false
is_for_all All = true

-- what a wait is for, but for its objects
abbrev pub pending_wait : ℕ → Mode → Option ℕ → PendingWait
pending_wait thread mode deadline = record {
  deadline = or_zero deadline;
  thread = thread;
  all = is_for_all mode;
  has_deadline = is_some deadline;
}

-- the objects stand at the front of the places in the order of the wait and 0 is told; or they don't fit, and 122 is
-- told
abbrev pub IdsTell : List Id → ℕ → List Object → List Object → Type 0
IdsTell ids status before after = ((length ids ≤ length before) × (status ≡ 0)
    × (after ≡ map object_of ids ++ drop (length ids) before))
    ⊎ ((length before < length ids) × (status ≡ 122) × (after ≡ before))

-- what C is told of a wait: the wait itself, its objects, and how many these are
pub record WaitPlaces : Type 0 where
  pub pending : PendingWait
  pub objects : List Object
  pub count : ℕ

-- a pending wait, whose objects may not fit; one that is answered is for nothing, and 87 is told
abbrev pub StateTells : ℕ → Option ℕ → WaitsState → ℕ → WaitPlaces → WaitPlaces → Type 0
StateTells thread deadline (Pending mode ids) status before after =
    (after.pending ≡ pending_wait thread mode deadline) × (after.count ≡ length ids)
    × IdsTell ids status before.objects after.objects
StateTells thread deadline (Answered code) status before after = (status ≡ 87) × (after ≡ before)

abbrev pub WaitTells : Option Wait → ℕ → WaitPlaces → WaitPlaces → Type 0
WaitTells (Some wait) status before after = StateTells wait.thread wait.deadline wait.state status before after
WaitTells None status before after = (status ≡ 87) × (after ≡ before)

abbrev pub places : PendingWait → List Object → ℕ → WaitPlaces
places pending objects count = record { pending = pending; objects = objects; count = count }
