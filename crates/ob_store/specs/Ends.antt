-- The ends of threads and processes. None of these settles: a call settles once, behind all of them.
use Rattle.std.specs.Prelude.{ℕ, zero, suc, Option, Some, None, if◌then◌else◌, length, map, slice_index_or, slice_set}
use Rattle.std.specs.List.{list_any}
use Rattle.ob_body.specs.declared.body.Body.{Body}
use Rattle.ob_body.specs.Body.{after_abandon}
use Rattle.ob_tables.specs.Tables.{without_entries}
use Rattle.ob_waits.specs.CountedBodies.{CountedBodies}
use Rattle.ob_waits.specs.Waits.{unless_of}
use Rattle.ob_tables.specs.Processes.{is_of}
use Rattle.ob_store.specs.State.{State}

-- a mutex that the thread owned is abandoned
abbrev pub slot_left_by : ℕ → Option Body → Option Body
slot_left_by thread None = None
slot_left_by thread (Some b) = Some (after_abandon thread b)

-- all of them are
abbrev pub abandoned_by : ℕ → CountedBodies → CountedBodies
abandoned_by thread o = record o { bodies = map (slot_left_by thread) o.bodies }

-- a thread ends: its wait leaves, pending or answered; its mutexes are abandoned; and its number is gone
abbrev pub thread_ended : State → ℕ → State
thread_ended s thread = record s {
  waits = map (unless_of thread) s.waits;
  bodies = map (slot_left_by thread) s.bodies;
  threads = slice_set s.threads thread None;
}

-- the threads of a process whose numbers are below one end, by rising number
abbrev pub threads_ended : State → ℕ → ℕ → State
threads_ended s process zero = s
threads_ended s process (suc thread) =
    let before = threads_ended s process thread in
    if is_of process (slice_index_or before.threads thread None) then thread_ended before thread else before

-- the entries of a process leave, and its number is gone
abbrev pub process_ended : State → ℕ → State
process_ended s process = record s {
  tables = without_entries s.tables process;
  processes = slice_set s.processes process None;
}

-- a process ends with its threads
abbrev pub exited : State → ℕ → State
exited s process = process_ended (threads_ended s process (length s.threads)) process

-- a process ends once it has no thread
abbrev pub unless_threads : State → ℕ → State
unless_threads s process = if list_any (is_of process) s.threads then s else process_ended s process

-- a thread ends, and its process with its last thread
abbrev pub after_thread_end : State → ℕ → ℕ → State
after_thread_end s process thread = unless_threads (thread_ended s thread) process
