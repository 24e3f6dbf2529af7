-- The live processes and threads. A number is a place of a list; place 0 has nothing, since number 0 is never given, and
-- a number that is gone has None.
use Rattle.std.specs.Prelude.{◌≡◌, ℕ, ◌+◌, ◌-◌, ◌==◌, ◌<◌, ◌≤◌, Bool, false, count_by, if◌then◌else◌, is_none, is_some, IsSome, List, [], ◌∷◌, Option, Some, None, length, slice_index_or}
use Rattle.std.specs.List.{position_or_len}
use Rattle.ob_tables.specs.declared.entry.Entry.{Entry}
use Rattle.ob_tables.specs.declared.limits.Limits.{Limits}
use Rattle.ob_tables.specs.Tables.{put}

pub record ProcessesState : Type 0 where
  pub processes : List (Option ℕ)  -- the session of each live process
  pub threads : List (Option ℕ)  -- the process of each live thread

-- number 0 is there, and is never given
pub record IsFromOne (numbers : List (Option ℕ)) : Type 0 where
  pub not_empty : 0 < length numbers
  pub none : slice_index_or numbers 0 None ≡ None

-- the least number above 0 that no live one has
abbrev pub least_gone : List (Option ℕ) → ℕ
least_gone [] = 1
least_gone (zero ∷ numbers) = position_or_len is_none numbers + 1

-- The number that is given next: one that never was or, where numbers come back, the least that no live one has.
abbrev pub next_number : Bool → List (Option ℕ) → ℕ
next_number reuse numbers = if reuse then least_gone numbers else length numbers

-- it is given to something
abbrev pub given : Bool → List (Option ℕ) → ℕ → List (Option ℕ)
given reuse numbers value = put numbers (next_number reuse numbers) (Some value)

abbrev pub no_processes : ProcessesState
no_processes = record { processes = None ∷ []; threads = None ∷ [] }

-- a new process of a session, with its first thread
abbrev pub with_process : Bool → ProcessesState → ℕ → ProcessesState
with_process reuse l session = record {
  processes = given reuse l.processes session;
  threads = given reuse l.threads (next_number reuse l.processes);
}

-- a new thread of a process
abbrev pub with_thread : Bool → ProcessesState → ℕ → ProcessesState
with_thread reuse l process = record l { threads = given reuse l.threads process }

-- whether this stands at a number: the process, at the number of a live thread
abbrev pub is_of : ℕ → Option ℕ → Bool
is_of value None = false
is_of value (Some other) = other == value

-- how many numbers are used up: those that were given, from 1 on, or where they come back those of live ones
abbrev pub used_up : Bool → List (Option ℕ) → ℕ
used_up reuse numbers = if reuse then count_by is_some numbers else length numbers - 1

-- the number is live
abbrev pub IsLive : List (Option ℕ) → ℕ → Type 0
IsLive numbers n = IsSome (slice_index_or numbers n None)

-- no more numbers than the limits let, and 0 is nobody's; each process number has a table, which is empty where the
-- process isn't live; a live thread's process is live
pub record ProcessesKept (limits : Limits) (p : ProcessesState) (tables : List (List (Option Entry))) : Type 0 where
  pub few_processes : length p.processes ≤ limits.processes + 1
  pub few_threads : length p.threads ≤ limits.threads + 1
  pub processes_from_one : IsFromOne p.processes
  pub threads_from_one : IsFromOne p.threads
  pub tabled : length tables ≡ length p.processes
  pub vacated : (process : ℕ) → slice_index_or p.processes process None ≡ None → slice_index_or tables process [] ≡ []
  pub live : (thread process : ℕ) → slice_index_or p.threads thread None ≡ Some process → IsLive p.processes process
