-- What can still come before a call is refused for want of it.
use Rattle.std.specs.Prelude.{ℕ, ◌-◌, if◌then◌else◌, length}
use Rattle.ob_arena.specs.Slots.{vacant_count}
use Rattle.ob_tables.specs.Counts.{entries_in}
use Rattle.ob_tables.specs.Processes.{used_up}
use Rattle.ob_tables.specs.Tables.{table_of}
use Rattle.ob_store.specs.declared.room.Room.{Room}
use Rattle.ob_store.specs.State.{State, vacancy}
use Rattle.ob_store.specs.Walking.{is_process}

-- how many further handles a process may have: none where it isn't live
abbrev pub handles_left : State → ℕ → ℕ
handles_left s process = if is_process s process then s.limits.handles - entries_in (table_of s.tables process) else 0

-- how many wait numbers can still be given: without end where they come back
abbrev pub waits_left : State → ℕ
waits_left s = if s.limits.reuse then 4294967295 else s.limits.waits - (length s.waits - 1)

-- what can still come, and which handles to this process
abbrev pub room_of : State → ℕ → Room
room_of s process = record {
  slots = vacant_count (vacancy s);
  processes = s.limits.processes - used_up s.limits.reuse s.processes;
  threads = s.limits.threads - used_up s.limits.reuse s.threads;
  handles = handles_left s process;
  waits = waits_left s;
}
