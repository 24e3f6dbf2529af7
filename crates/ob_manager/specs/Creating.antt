-- Creating and opening.
use Rattle.std.specs.Prelude.{ℕ, nat_lt, Bool, false, not, List, Option, Some, None, Result, Ok, Err, if◌then◌else◌, slice_index_or, ℤ}
use Rattle.pin_core.specs.declared.id.Id.{Id}
use Rattle.pin_core.specs.declared.descr.Descr.{Descr}
use Rattle.ob_rights.specs.declared.fault.Fault.{Fault}
use Rattle.ob_rights.specs.declared.fault.Fault.TheVariants as fault
use Rattle.ob_rights.specs.declared.kind.Kind.{Kind}
use Rattle.ob_rights.specs.declared.kind.Kind.TheVariants as kind
use Rattle.ob_rights.specs.declared.rights.Rights.{Rights}
use Rattle.ob_rights.specs.declared.handle_flags.HandleFlags.{HandleFlags}
use Rattle.ob_rights.specs.Rights.{all_access, within}
use Rattle.ob_arena.specs.Slots.{least_vacant}
use Rattle.ob_body.specs.declared.body.Body.TheVariants as body
use Rattle.ob_body.specs.Body.{kind_of}
use Rattle.ob_body.specs.Mutex as mutex
use Rattle.ob_name.specs.Names.{ObjectName}
use Rattle.ob_name.specs.Texts.{name_of}
use Rattle.ob_name.specs.Listing.{find_name}
use Rattle.ob_tables.specs.declared.entry.Entry.{Entry}
use Rattle.ob_tables.specs.Table.{free_place, is_packed, value_of}
use Rattle.ob_tables.specs.Tables.{table_of}
use Rattle.ob_manager.specs.Makings.{Making}
use Rattle.ob_manager.specs.declared.creating.New.{New}
use Rattle.ob_manager.specs.declared.reply.Reply.TheVariants.{Made, Exists, Opened}
use Rattle.ob_store.specs.Objects.{ObjectAttributes}
use Rattle.ob_store.specs.State.{State, id_at, is_full, settled, vacancy, with_entry, with_object}
use Rattle.ob_store.specs.Directory.{directory_of}
use Rattle.ob_manager.specs.Outcomes.{Outcome, ◌>>=◌, or_refuse, refuse_if}
use Rattle.ob_manager.specs.Checks.{caller, body_of, is_allowed, positive, natural}

-- the rights that are asked for, and those that opens may get: all of the kind's, unless others are given
abbrev pub or_all : Kind → Option Rights → Rights
or_all kind None = all_access kind
or_all kind (Some rights) = rights

abbrev pub flags_of : Bool → HandleFlags
flags_of inherit = record { 0 = if inherit then 1 else 0 }

-- what a handle to an object with these rights is
abbrev pub entry_of : Id → Rights → Bool → Entry
entry_of id rights inherit = record { id = id; rights = rights; flags = flags_of inherit }

-- the value that a process's next handle has
abbrev pub next_handle : State → ℕ → ℕ
next_handle s process = value_of (free_place (table_of s.tables process))

-- whether one more handle of a process takes a new place of its table: where a value was given back, that one is given
-- again
abbrev pub takes_place : State → Option ℕ → Bool
takes_place s None = false
takes_place s (Some process) = is_packed (table_of s.tables process)

-- what a name that a caller gives stands for in its session
abbrev pub name_in : State → ℕ → List ℕ → Result ObjectName Fault
name_in s process text = do
  session ← or_refuse (slice_index_or s.processes process None) fault.Parameter
  name_of text session

-- the object that has a name
abbrev pub find_named : State → ℕ → List ℕ → Result Id Fault
find_named s session text = do
  name ← name_of text session
  or_refuse (find_name name (directory_of s)) fault.NotFound

abbrev pub own_name : State → ℕ → Option (List ℕ) → Result (Option ObjectName) Fault
own_name s process None = Ok None
own_name s process (Some text) = do
  name ← name_in s process text
  Ok (Some name)

-- the slot of a new object, the least that may have one: 5 for a right outside all rights of its kind, 1450 where the
-- process has all its handles or no slot is vacant
abbrev pub room_for : State → ℕ → Making → Kind → Result ℕ Fault
room_for s process making kind = do
  _ ← refuse_if (not (within (or_all kind making.access).0 (all_access kind).0)) fault.Access
  _ ← refuse_if (is_full s process) fault.Limit
  or_refuse (least_vacant (vacancy s)) fault.Limit

-- a new object, and a handle to it with the rights that are asked for
abbrev pub new_object : State → ℕ → Making → New → Option ObjectName → Result Outcome Fault
new_object s process making new name = do
  slot ← room_for s process making (kind_of new.body)
  let attributes : ObjectAttributes = record { descr = new.descr; grant = or_all (kind_of new.body) making.grant; name = name } in
      let entry : Entry = entry_of (id_at s slot) (or_all (kind_of new.body) making.access) making.inherit in
      Ok (record {
        reply = Made (next_handle s process) (id_at s slot);
        state = settled (with_entry (with_object s slot attributes new.body) process entry);
      })

-- a handle to an object that is there: 6 where it is of another kind, 5 where its grant doesn't allow the rights
abbrev pub new_handle : State → ℕ → Id → Kind → Rights → Bool → Result State Fault
new_handle s process id kind asked inherit = do
  o ← or_refuse (slice_index_or s.objects id.slot None) fault.Handle
  _ ← body_of s id kind
  _ ← refuse_if (not (is_allowed asked o.grant)) fault.Access
  _ ← refuse_if (is_full s process) fault.Limit
  Ok (settled (with_entry s process (entry_of id asked inherit)))

-- where an object has the name, a handle to it; else a new object
abbrev pub named_object : State → ℕ → Making → New → ObjectName → Option Id → Result Outcome Fault
named_object s process making new name None = new_object s process making new (Some name)
named_object s process making new name (Some id) = do
  after ← new_handle s process id (kind_of new.body) (or_all (kind_of new.body) making.access) making.inherit
  Ok (record { reply = Exists (next_handle s process) id; state = after })

abbrev pub created : State → ℕ → Making → New → Option ObjectName → Result Outcome Fault
created s process making new None = new_object s process making new None
created s process making new (Some name) = named_object s process making new name (find_name name (directory_of s))

-- 87 for a grant with a bit outside all rights of the kind
abbrev pub create : State → ℕ → Making → Result New Fault → Result Outcome Fault
create s thread making what = do
  process ← caller s thread
  new ← what
  _ ← refuse_if (not (within (or_all (kind_of new.body) making.grant).0 (all_access (kind_of new.body)).0)) fault.Parameter
  name ← own_name s process making.name
  created s process making new name

abbrev pub event_descr : Bool → Descr
event_descr manual = record { kind = kind.Event; manual = manual; max = 0 }

abbrev pub mutex_descr : Descr
mutex_descr = record { kind = kind.Mutex; manual = false; max = 0 }

abbrev pub semaphore_descr : ℕ → Descr
semaphore_descr max = record { kind = kind.Semaphore; manual = false; max = max }

abbrev pub timer_descr : Bool → Descr
timer_descr manual = record { kind = kind.Timer; manual = manual; max = 0 }

abbrev pub new_event : Bool → Bool → New
new_event manual set = record { descr = event_descr manual; body = body.Event (record { manual = manual; set = set }) }

-- a mutex that its creator owns once, or nobody
abbrev pub new_mutex : ℕ → Bool → New
new_mutex thread owned = record {
  descr = mutex_descr;
  body = body.Mutex (mutex.opening (if owned then Some thread else None));
}

-- 87 for a maximum that isn't above 0, and for a count below 0 or above the maximum
abbrev pub semaphore_of : ℕ → ℕ → Result New Fault
semaphore_of initial max =
    if nat_lt max initial then Err fault.Parameter
    else Ok (record { descr = semaphore_descr max; body = body.Semaphore (record { count = initial; maximum = max }) })

abbrev pub new_semaphore : ℤ → ℤ → Result New Fault
new_semaphore initial max = do
  count ← or_refuse (natural initial) fault.Parameter
  most ← or_refuse (positive max) fault.Parameter
  semaphore_of count most

-- a timer that isn't signaled and isn't set
abbrev pub new_timer : Bool → New
new_timer manual = record {
  descr = timer_descr manual;
  body = body.Timer (record { manual = manual; signaled = false; due = None; period = 0 });
}

-- an object of the host's own, which a descriptor tells as an event
abbrev pub new_host : ℕ → Bool → Bool → New
new_host object_type manual signaled = record {
  descr = event_descr manual;
  body = body.Host (record { object_type = object_type; event = record { manual = manual; set = signaled } });
}

abbrev pub create_event : State → ℕ → Making → Bool → Bool → Result Outcome Fault
create_event s thread making manual set = create s thread making (Ok (new_event manual set))

abbrev pub create_mutex : State → ℕ → Making → Bool → Result Outcome Fault
create_mutex s thread making owned = create s thread making (Ok (new_mutex thread owned))

abbrev pub create_semaphore : State → ℕ → Making → ℤ → ℤ → Result Outcome Fault
create_semaphore s thread making initial max = create s thread making (new_semaphore initial max)

abbrev pub create_timer : State → ℕ → Making → Bool → Result Outcome Fault
create_timer s thread making manual = create s thread making (Ok (new_timer manual))

abbrev pub create_host : State → ℕ → Making → ℕ → Bool → Bool → Result Outcome Fault
create_host s thread making object_type manual signaled =
    create s thread making (Ok (new_host object_type manual signaled))

-- 2 for a name that no object has, whatever the rights are
abbrev pub open_named : State → ℕ → Kind → Rights → Bool → List ℕ → Result Outcome Fault
open_named s thread kind asked inherit text = do
  process ← caller s thread
  name ← name_in s process text
  id ← or_refuse (find_name name (directory_of s)) fault.NotFound
  after ← new_handle s process id kind asked inherit
  Ok (record { reply = Opened (next_handle s process) id; state = after })
