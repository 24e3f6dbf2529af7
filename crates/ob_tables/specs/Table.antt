-- One handle table: the list of its places, each with an entry or with none. The value of place i is 4 * (i + 1).
use Rattle.std.specs.Prelude.{◌≡◌, ℕ, suc, ◌+◌, ◌*◌, ◌-◌, ◌/◌, ◌≤◌, nat_le, nat_lt, Bool, List, [], ◌∷◌, length, map, Option, Some, None, if◌then◌else◌, slice_index_or, slice_set, is_some}
use Rattle.ob_rights.specs.declared.handle_flags.HandleFlags.{HandleFlags}
use Rattle.ob_tables.specs.declared.entry.Entry.{Entry}

-- what stands at a place
abbrev pub at : List (Option Entry) → ℕ → Option Entry
at table place = slice_index_or table place None

-- the place of a handle value from 4 on, whose two lowest bits are ignored
abbrev pub place_of : ℕ → ℕ
place_of value = value / 4 - 1

-- the value of a place
abbrev pub value_of : ℕ → ℕ
value_of place = 4 * (place + 1)

-- the entry of a handle value; 0 to 3 name nothing
abbrev pub entry_at : List (Option Entry) → ℕ → Option Entry
entry_at table value = if nat_lt value 4 then None else at table (place_of value)

-- the least place without an entry, or the length
abbrev pub free_place : {A : Type 0} → List (Option A) → ℕ
free_place [] = 0
free_place (None ∷ table) = 0
free_place (Some x ∷ table) = suc (free_place table)

-- each place has an entry, so that one more entry takes a new place
abbrev pub is_packed : {A : Type 0} → List (Option A) → Bool
is_packed table = nat_le (length table) (free_place table)

-- the table with an entry at its least free place
abbrev pub with_entry : List (Option Entry) → Entry → List (Option Entry)
with_entry [] entry = Some entry ∷ []
with_entry (None ∷ table) entry = Some entry ∷ table
with_entry (Some other ∷ table) entry = Some other ∷ with_entry table entry

-- the table without the entry of a handle value. It stays as long as it ever was: a place past its end is one without
-- an entry
abbrev pub without_entry : List (Option Entry) → ℕ → List (Option Entry)
without_entry table value = if nat_lt value 4 then table else slice_set table (place_of value) None

-- an entry with other flags
abbrev pub flagged : Option Entry → HandleFlags → Option Entry
flagged None flags = None
flagged (Some entry) flags = Some (record entry { flags = flags })

-- the table with other flags in the entry of a handle value
abbrev pub with_flags : List (Option Entry) → ℕ → HandleFlags → List (Option Entry)
with_flags table value flags = slice_set table (place_of value) (flagged (entry_at table value) flags)

-- the numbers that are taken are those of the places with an entry, and there are few places
pub record TableInvariant (taken : List Bool) (places : List (Option Entry)) : Type 0 where
  pub at_most : length places ≤ 16384
  pub same : taken ≡ map is_some places
