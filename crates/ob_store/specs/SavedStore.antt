-- A store as bytes: its limits, the moment, processes and threads, handle tables, waits, and slots with their objects.
use Rattle.std.specs.Prelude.{ℕ, ◌*◌, nat_le, nat_lt, ◌||◌, not, Bool, if◌then◌else◌, List, [], ◌++◌, length, map, Option, None, Ok, is_some, slice_index_or}
use Rattle.std.specs.List.{list_all, range_with_len}
use Rattle.std.specs.Int.{w64, to_le_bytes}
use Rattle.ob_codec.specs.Reading.{◌>>=◌, Read, has_at, number_at, where_at}
use Rattle.ob_tables.specs.Spelling.{tables_at, tables_text}
use Rattle.ob_tables.specs.Tables.{HandleTables}
use Rattle.ob_tables.specs.declared.entry.Entry.{Entry}
use Rattle.ob_waits.specs.Spelling.{waits_at, waits_text}
use Rattle.ob_waits.specs.Waits.{WaitList}
use Rattle.ob_tables.specs.declared.limits.Limits.{Limits}
use Rattle.ob_store.specs.Objects.{ObjectsState}
use Rattle.ob_tables.specs.Processes.{ProcessesState}
use Rattle.ob_tables.specs.SavedLimits.{limits_at, limits_text}
use Rattle.ob_store.specs.SavedObjects.{begun_over, objects_at, objects_text, slots_saved}
use Rattle.ob_tables.specs.SavedProcesses.{processes_at, processes_text}
use Rattle.ob_store.specs.SavedSlots.{keeper_slot}
use Rattle.ob_store.specs.State.{Whole, generation_of, last_wait, shape_of}

-- the processes and threads, and the objects of a state, of which no count is saved
abbrev pub processes_in : Whole → ProcessesState
processes_in w = record { processes = w.state.processes; threads = w.state.threads }

abbrev pub objects_in : Whole → ObjectsState
objects_in w = record {
  objects = w.state.objects;
  seen = record { bodies = w.state.bodies; handles = []; blocks = [] };
  retired = w.state.retired;
  births = w.state.births;
  keeper = w.keeper;
}

abbrev pub store_text : Whole → List ℕ
store_text w = limits_text w.state.limits ++ (to_le_bytes w64 w.state.clock ++ (processes_text (processes_in w)
    ++ (tables_text w.state.tables ++ (waits_text w.state.waits ++ objects_text w.state.limits.reuse (objects_in w)))))

-- a moment: none is after the last
abbrev pub is_moment : ℕ → Bool
is_moment n = nat_le n 9223372036854775807

abbrev pub moment_at : List ℕ → Read ℕ
moment_at = where_at is_moment (number_at w64)

-- whether a number is live, or its table is empty; and the same of the first numbers
abbrev pub is_vacated : List (Option ℕ) → List (List (Option Entry)) → ℕ → Bool
is_vacated processes tables k =
    is_some (slice_index_or processes k None) || not (nat_lt 0 (length (slice_index_or tables k [])))

abbrev pub are_vacated : List (Option ℕ) → List (List (Option Entry)) → ℕ → Bool
are_vacated processes tables n = list_all (is_vacated processes tables) (range_with_len 0 n)

-- handle tables, one for each process number, of which only the live ones have places
abbrev pub tables_for : Limits → List (Option ℕ) → List ℕ → Read HandleTables
tables_for limits processes = where_at (λ t. are_vacated processes t.tables (length processes))
    (tables_at limits.processes limits.handles (length processes))

-- the state that the parts say, and what their keeper says
abbrev pub whole_with : Limits → ProcessesState → HandleTables → WaitList → ObjectsState → Whole
whole_with limits p t w o = record {
  state = record {
    limits = limits;
    processes = p.processes;
    threads = p.threads;
    tables = t.tables;
    objects = o.objects;
    bodies = o.seen.bodies;
    generations = map generation_of o.keeper.slots;
    retired = o.retired;
    births = o.births;
    waits = w.waits;
    clock = w.clock;
  };
  keeper = o.keeper;
}

-- processes and threads, handle tables, and waits, one behind the other
abbrev pub lists_at : Limits → ℕ → List ℕ → Read (ProcessesState × (HandleTables × WaitList))
lists_at limits clock bytes = do
  p ← processes_at limits.processes limits.threads bytes
  t ← tables_for limits p.0.processes p.1
  w ← waits_at (last_wait limits) clock (length p.0.threads) limits.slots t.1
  Ok ((p.0, (t.0, w.0)), w.1)

-- the whole state, once these are read and slots with their objects stand behind them
abbrev pub behind_lists : Limits → (ProcessesState × (HandleTables × WaitList)) × List ℕ → Read Whole
behind_lists limits l = do
  o ← objects_at limits l.0.0.threads l.0.1.0.tables l.0.1.1 l.1
  Ok (whole_with limits l.0.0 l.0.1.0 l.0.1.1 o.0.0, o.1)

-- how many bytes a slot has at least: its generation, and two flags
abbrev pub slot_bytes : ℕ
slot_bytes = 6

-- how many bytes all slots have at least, where each stands there
abbrev pub least_bytes : Limits → ℕ
least_bytes limits = if limits.reuse then 0 else limits.slots * slot_bytes

-- What stands behind the limits and the moment: so many bytes at least as the slots have, so that no room is made for
-- slots that aren't there.
abbrev pub parts_at : Limits → ℕ → List ℕ → Read Whole
parts_at limits clock bytes = do
  there ← has_at (least_bytes limits) bytes
  l ← lists_at limits clock bytes
  behind_lists limits l

abbrev pub store_at : List ℕ → Read Whole
store_at bytes = do
  limits ← limits_at bytes
  clock ← moment_at limits.1
  parts_at limits.0 clock.0 clock.1

-- the same state over a keeper that begins with its slots, of which nobody holds any
abbrev pub begun_again : Whole → Whole
begun_again w = record w {
  keeper =
      begun_over (shape_of w.state.limits) (map keeper_slot (slots_saved (objects_in w)));
}
