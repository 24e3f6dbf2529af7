-- What a walk finds: the handles of a process, and the live threads.
use Rattle.std.specs.Prelude.{ℕ, ◌%◌, ◌==◌, ◌&&◌, Bool, List, Option, None, is_some, slice_index_or}
use Rattle.ob_tables.specs.declared.entry.Entry.{Entry}
use Rattle.ob_tables.specs.Table.{entry_at}
use Rattle.ob_tables.specs.Tables.{table_of}
use Rattle.ob_tables.specs.Processes.{is_of}
use Rattle.ob_store.specs.State.{State}

-- whether an object is in the slot
abbrev pub is_object_at : State → ℕ → Bool
is_object_at s slot = is_some (slice_index_or s.objects slot None)

-- whether the process is live
abbrev pub is_process : State → ℕ → Bool
is_process s process = is_some (slice_index_or s.processes process None)

-- whether the thread is a live one of the process
abbrev pub is_thread_of : State → ℕ → ℕ → Bool
is_thread_of s process thread = is_of process (slice_index_or s.threads thread None)

-- whether the value is that of an entry: a multiple of 4, since the two lowest bits of a handle are ignored
abbrev pub is_value_in : List (Option Entry) → ℕ → Bool
is_value_in table value = value % 4 == 0 && is_some (entry_at table value)

abbrev pub is_value_of : State → ℕ → ℕ → Bool
is_value_of s process value = is_value_in (table_of s.tables process) value
