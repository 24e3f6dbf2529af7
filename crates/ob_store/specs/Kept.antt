-- What holds whenever no call is under way. Each group of facts is about the parts that it reads, so that a change of
-- others leaves it as it is.
use Rattle.std.specs.Prelude.{◌≡◌, ℕ, ◌<◌, List, Option, Some, None, length, slice_index_or, true}
use Rattle.std.specs.List.{list_any}
use Rattle.pin_core.specs.declared.id.Id.{Id}
use Rattle.pin_core.specs.declared.descr.Descr.{Descr}
use Rattle.pin_core.specs.declared.shape.Shape.{Shape}
use Rattle.ob_body.specs.declared.body.Body.{Body}
use Rattle.ob_body.specs.Body.{due_of, owner_of, has_room}
use Rattle.ob_name.specs.Listing.{Rows, AreDistinct}
use Rattle.ob_tables.specs.declared.entry.Entry.{Entry}
use Rattle.ob_tables.specs.Counts.{handles_among, slot_handles}
use Rattle.ob_waits.specs.declared.wait.Wait.{Wait}
use Rattle.ob_waits.specs.CountedBodies.{CountedBodies}
use Rattle.ob_waits.specs.Form.{Form, IsAfter, form_of, slot_due, slot_owner}
use Rattle.ob_waits.specs.Rules.{IsSettled, WaitsHaveRoom, thread_of}
use Rattle.ob_waits.specs.Waits.{blocks_among, slot_blocks}
use Rattle.ob_tables.specs.declared.limits.Limits.{Limits}
use Rattle.ob_tables.specs.Processes.{IsLive, ProcessesKept, is_of}
use Rattle.ob_store.specs.Objects.{Object}
use Rattle.ob_store.specs.Parts.{PartsState}
use Rattle.ob_store.specs.State.{by_slot, last_wait, shape_of}
use Rattle.ob_store.specs.Directory.{rows_of}

-- each part has the limits of the whole
pub record AreLimited (limits : Limits) (processes handles waits : ℕ) (shape : Shape) : Type 0 where
  pub processes_are : processes ≡ limits.processes
  pub handles_are : handles ≡ limits.handles
  pub waits_are : waits ≡ last_wait limits
  pub shape_is : shape ≡ shape_of limits

-- each live process has a live thread, which doesn't hold while it ends
abbrev pub IsPopulated : List (Option ℕ) → List (Option ℕ) → Type 0
IsPopulated processes threads =
    (process : ℕ) → IsLive processes process → list_any (is_of process) threads ≡ true

-- the stored counts are the numbers of entries and of places of pending waits
pub record IsCounted (seen : CountedBodies) (n : ℕ) (tables : List (List (Option Entry)))
    (waits : List (Option Wait)) : Type 0 where
  pub handles : seen.handles ≡ by_slot n (λ k. slot_handles k tables)
  pub blocks : seen.blocks ≡ by_slot n (λ k. slot_blocks k waits)

-- the Id of a slot's object
abbrev pub id_in : Option Object → Option Id
id_in None = None
id_in (Some o) = Some o.id

-- the object of this Id is there
abbrev pub IsThere : List (Option Object) → Id → Type 0
IsThere objects id = id_in (slice_index_or objects id.slot None) ≡ Some id

-- each Id of an entry or of a pending wait is that of an object
pub record IsNamed (objects : List (Option Object)) (tables : List (List (Option Entry)))
    (waits : List (Option Wait)) : Type 0 where
  pub entries : (id : Id) → 0 < handles_among id tables → IsThere objects id
  pub blocks : (id : Id) → 0 < blocks_among id waits → IsThere objects id

-- what a descriptor says of a new body
abbrev pub form_in : Descr → Form
form_in d = record { kind = d.kind; manual = d.manual; maximum = d.max; due = None }

-- a form without its due moment
abbrev pub unset : Form → Form
unset f = record f { due = None }

-- each body is what its object's descriptor says, and no timer is due yet
pub record AreFormed (clock : ℕ) (objects : List (Option Object)) (bodies : List (Option Body)) : Type 0 where
  pub each : (k : ℕ) (o : Object) (b : Body) → slice_index_or objects k None ≡ Some o
      → slice_index_or bodies k None ≡ Some b → unset (form_of b) ≡ form_in o.descr
  pub later : (k : ℕ) → IsAfter clock (slot_due (slice_index_or bodies k None))

-- a change of a body that takes nothing for a thread: its form stays, but for a due moment that is still to come, no
-- thread comes to own it, and none loses room
pub record Yields (clock : ℕ) (old new : Body) : Type 0 where
  pub form : unset (form_of new) ≡ unset (form_of old)
  pub due : IsAfter clock (due_of old) → IsAfter clock (due_of new)
  pub owner : (t : ℕ) → owner_of new ≡ Some t → owner_of old ≡ Some t
  pub room : (limit t : ℕ) → has_room limit t old ≡ true → has_room limit t new ≡ true

-- the owner of a mutex is a live thread, and the thread of a wait too
pub record AreOfLive (threads : List (Option ℕ)) (bodies : List (Option Body))
    (waits : List (Option Wait)) : Type 0 where
  pub owners : (k t : ℕ) → slot_owner (slice_index_or bodies k None) ≡ Some t → IsLive threads t
  pub waiters : (n t : ℕ) → thread_of (slice_index_or waits n None) ≡ Some t → IsLive threads t

-- no pending wait is ready, and none is for a mutex that its thread owns as often as the limit lets
pub record IsQuiet (limit : ℕ) (bodies : List (Option Body)) (waits : List (Option Wait)) : Type 0 where
  pub room : WaitsHaveRoom limit bodies waits
  pub settled : IsSettled bodies waits

-- the names that are entered are the directory, and none stands twice
pub record IsListing (rows : Rows) (tables : List (List (Option Entry))) (objects : List (Option Object))
    (births : ℕ) : Type 0 where
  pub same : rows ≡ rows_of tables objects births
  pub distinct : AreDistinct rows

-- what ties the parts of a store to one another while a call is under way
pub record IsSound (p : PartsState) : Type 0 where
  pub limited : AreLimited p.limits p.tables.process_limit p.tables.handle_limit p.waits.limit p.objects.keeper.shape
  pub processes_kept : ProcessesKept p.limits p.processes p.tables.tables
  pub counted : IsCounted p.objects.seen (length p.objects.objects) p.tables.tables p.waits.waits
  pub named : IsNamed p.objects.objects p.tables.tables p.waits.waits
  pub formed : AreFormed p.waits.clock p.objects.objects p.objects.seen.bodies
  pub of_live : AreOfLive p.processes.threads p.objects.seen.bodies p.waits.waits
  pub room : WaitsHaveRoom p.limits.max_recursion p.objects.seen.bodies p.waits.waits
  pub listing : IsListing p.rows p.tables.tables p.objects.objects p.objects.births

-- and whenever none is. No public clause names it; what a caller sees of it is MatchesState
pub record StoreInvariant (p : PartsState) : Type 0 where
  pub sound : IsSound p
  pub populated : IsPopulated p.processes.processes p.processes.threads
  pub settled : IsSettled p.objects.seen.bodies p.waits.waits
