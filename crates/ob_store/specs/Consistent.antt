-- What a reader is told of the state and the keeper whenever no call is under way.
use Rattle.std.specs.Prelude.{◌≡◌, ℕ, ◌+◌, ◌<◌, nat_lt, false, None, length, is_some, map, slice_index_or}
use Rattle.pin_core.specs.declared.id.Id.{Id}
use Rattle.pin_core.specs.Worlds.{slot_of}
use Rattle.ob_name.specs.Listing.{AreDistinct}
use Rattle.ob_waits.specs.Deadlines.{AreAhead}
use Rattle.ob_waits.specs.Rules.{WaitsInvariant}
use Rattle.ob_store.specs.Agreement.{Agrees, AreBorn, IsListed}
use Rattle.ob_store.specs.State.{Whole, generation_of, handles_of, blocks_of, settled, shape_of}
use Rattle.ob_store.specs.Directory.{directory_of}
use Rattle.ob_tables.specs.Processes.{ProcessesKept}
use Rattle.ob_store.specs.Kept.{AreFormed, AreOfLive, IsNamed, IsPopulated, IsQuiet, IsThere}

pub record IsConsistent (w : Whole) : Type 0 where
  -- numbers are within the limits and 0 is nobody's, each process number has a table, which is empty where the process
  -- isn't live, and a live thread's process is live
  pub processes : ProcessesKept w.state.limits (record { processes = w.state.processes; threads = w.state.threads })
      w.state.tables
  -- and each live process has a live thread
  pub populated : IsPopulated w.state.processes w.state.threads
  -- slot by slot: free, or given up, or with one object of the slot's Id and descriptor, live with a body and closing
  -- without
  pub slots : (k : ℕ) → k < w.keeper.shape.slots →
      Agrees k (slice_index_or w.state.objects k None) (slice_index_or w.state.bodies k None)
      (slice_index_or w.state.retired k false) (slot_of w.keeper.slots k)
  pub shape : w.keeper.shape ≡ shape_of w.state.limits
  -- there are as many slots as the limits say, each with its place in each list, and no others
  pub sizes : (length w.state.objects ≡ w.state.limits.slots) × (length w.state.bodies ≡ w.state.limits.slots)
      × (length w.state.retired ≡ w.state.limits.slots) × (length w.keeper.slots ≡ w.state.limits.slots)
  -- the generations are the keeper's
  pub generations : w.state.generations ≡ map generation_of w.keeper.slots
  -- each object's Id is published with its descriptor
  pub published : IsListed w.keeper.published w.state.objects
  -- births are distinct, and below their count
  pub born : AreBorn w.state.objects w.state.births
  -- each Id of an entry or of a pending wait is that of an object
  pub named : IsNamed w.state.objects w.state.tables w.state.waits
  -- an object has a body exactly where an entry or a pending wait refers to it
  pub ended : (id : Id) → IsThere w.state.objects id
      → is_some (slice_index_or w.state.bodies id.slot None) ≡ nat_lt 0 (handles_of w.state id + blocks_of w.state id)
  -- and the body is what the object's descriptor says; a timer's due moment is after now
  pub formed : AreFormed w.state.clock w.state.objects w.state.bodies
  -- no name stands twice in the directory
  pub distinct : AreDistinct (directory_of w.state)
  -- each wait is one that may be waited for, a thread has one, and it is live; so is the owner of a mutex
  pub waits : WaitsInvariant w.state.waits
  pub of_live : AreOfLive w.state.threads w.state.bodies w.state.waits
  -- each deadline of a pending wait is after now
  pub ahead : AreAhead w.state.clock w.state.waits
  -- no pending wait is ready, and none is for a mutex that its thread owns as often as the limit lets
  pub quiet : IsQuiet w.state.limits.max_recursion w.state.bodies w.state.waits
  -- nothing is left to settle
  pub still : settled w.state ≡ w.state
