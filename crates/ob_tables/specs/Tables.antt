-- The handle tables of all processes, by their numbers. Number 0 is never given.
use Rattle.std.specs.Prelude.{ℕ, ◌+◌, ◌≤◌, nat_lt, List, [], ◌∷◌, ◌++◌, length, Option, Some, None, if◌then◌else◌, slice_index_or, slice_set}
use Rattle.ob_rights.specs.declared.handle_flags.HandleFlags.{HandleFlags}
use Rattle.ob_tables.specs.declared.entry.Entry.{Entry}
use Rattle.ob_tables.specs.Table.{with_entry, without_entry, with_flags}
use Rattle.ob_tables.specs.Inheritance.{inherited}

-- how many process numbers may be given, how many entries a table may have, and the tables
pub record HandleTables : Type 0 where
  pub process_limit : ℕ
  pub handle_limit : ℕ
  pub tables : List (List (Option Entry))

-- the table of a process
abbrev pub table_of : List (List (Option Entry)) → ℕ → List (Option Entry)
table_of tables process = slice_index_or tables process []

-- an entry comes to a process, at its least free place
abbrev pub with_entry_of : List (List (Option Entry)) → ℕ → Entry → List (List (Option Entry))
with_entry_of tables process entry = slice_set tables process (with_entry (table_of tables process) entry)

-- the entry of a handle value leaves a process
abbrev pub without_entry_of : List (List (Option Entry)) → ℕ → ℕ → List (List (Option Entry))
without_entry_of tables process value = slice_set tables process (without_entry (table_of tables process) value)

-- the entry of a handle value has other flags
abbrev pub with_flags_of : List (List (Option Entry)) → ℕ → ℕ → HandleFlags → List (List (Option Entry))
with_flags_of tables process value flags = slice_set tables process (with_flags (table_of tables process) value flags)

-- the next process, without an entry
abbrev pub with_process : List (List (Option Entry)) → List (List (Option Entry))
with_process tables = tables ++ [] ∷ []

-- the next process, with what it inherits of another
abbrev pub with_child : List (List (Option Entry)) → ℕ → List (List (Option Entry))
with_child tables from = tables ++ inherited (table_of tables from) ∷ []

-- something comes to a place of a list, or behind the last
abbrev pub put : {A : Type 0} → List A → ℕ → A → List A
put xs n x = if nat_lt n (length xs) then slice_set xs n x else xs ++ x ∷ []

-- the table of a new process: without an entry, or with what it inherits of another
abbrev pub new_table : List (List (Option Entry)) → Option ℕ → List (Option Entry)
new_table tables None = []
new_table tables (Some parent) = inherited (table_of tables parent)

-- it comes to the number of the process: the next one, or that of a process that is gone
abbrev pub with_table : List (List (Option Entry)) → ℕ → Option ℕ → List (List (Option Entry))
with_table tables process parent = put tables process (new_table tables parent)

-- a process loses all its entries
abbrev pub without_entries : List (List (Option Entry)) → ℕ → List (List (Option Entry))
without_entries tables process = slice_set tables process []

-- the limits are in range, no number is given past its limit, and no table is longer than its limit
pub record IsBounded (process_limit handle_limit : ℕ) (tables : List (List (Option Entry))) : Type 0 where
  pub few_processes : process_limit ≤ 65536
  pub few_handles : handle_limit ≤ 16384
  pub first : 1 ≤ length tables
  pub within : length tables ≤ process_limit + 1
  pub short : (process : ℕ) → length (table_of tables process) ≤ handle_limit
