-- The parts of a store as one value, and the state that they say.
use Rattle.std.specs.Prelude.{map}
use Rattle.ob_name.specs.Listing.{Rows}
use Rattle.ob_tables.specs.Tables.{HandleTables}
use Rattle.ob_waits.specs.Waits.{Scene, WaitList}
use Rattle.ob_tables.specs.declared.limits.Limits.{Limits}
use Rattle.ob_store.specs.declared.parts.Parts.{Parts}
use Rattle.ob_tables.specs.Processes.{ProcessesState}
use Rattle.ob_store.specs.Objects.{ObjectsState}
use Rattle.ob_store.specs.Signaled.{SignaledState}
use Rattle.ob_store.specs.State.{State, Whole, generation_of}

pub record PartsState : Type 0 where
  pub limits : Limits
  pub processes : ProcessesState
  pub tables : HandleTables
  pub objects : ObjectsState
  pub waits : WaitList
  pub rows : Rows
  pub signaled : SignaledState

abbrev pub parts_of : {K : Type 0} → Parts K → PartsState
parts_of p = record {
  limits = p.limits;
  processes = p.processes;
  tables = p.tables;
  objects = p.objects;
  waits = p.waits;
  rows = p.names.rows;
  signaled = p.signaled;
}

abbrev pub scene_in : {K : Type 0} → Parts K → Scene
scene_in p = record { objects = p.objects.seen; waits = p.waits.waits }

abbrev pub state_of : PartsState → State
state_of p = record {
  limits = p.limits;
  processes = p.processes.processes;
  threads = p.processes.threads;
  tables = p.tables.tables;
  objects = p.objects.objects;
  bodies = p.objects.seen.bodies;
  generations = map generation_of p.objects.keeper.slots;
  retired = p.objects.retired;
  births = p.objects.births;
  waits = p.waits.waits;
  clock = p.waits.clock;
}

abbrev pub whole_of : PartsState → Whole
whole_of p = record { state = state_of p; keeper = p.objects.keeper }
