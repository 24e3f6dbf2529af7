-- How many entries there are, and how many name an object.
use Rattle.std.specs.Prelude.{ℕ, ◌==◌, Bool, false, List, Option, Some, None, sum_by, count_by, is_some}
use Rattle.pin_core.specs.Holds.{same_id}
use Rattle.pin_core.specs.declared.id.Id.{Id}
use Rattle.ob_tables.specs.declared.entry.Entry.{Entry}

-- whether a place has an entry of this object
abbrev pub names : Id → Option Entry → Bool
names id None = false
names id (Some entry) = same_id entry.id id

-- how many entries a table has
abbrev pub entries_in : List (Option Entry) → ℕ
entries_in table = count_by is_some table

-- how many entries name the object, in one table and in all
abbrev pub handles_in : Id → List (Option Entry) → ℕ
handles_in id table = count_by (names id) table

abbrev pub handles_among : Id → List (List (Option Entry)) → ℕ
handles_among id tables = sum_by (handles_in id) tables

-- whether a place has an entry of the object in this slot
abbrev pub names_slot : ℕ → Option Entry → Bool
names_slot slot None = false
names_slot slot (Some entry) = entry.id.slot == slot

-- how many entries name the object in a slot, in one table and in all
abbrev pub slot_handles_in : ℕ → List (Option Entry) → ℕ
slot_handles_in slot table = count_by (names_slot slot) table

abbrev pub slot_handles : ℕ → List (List (Option Entry)) → ℕ
slot_handles slot tables = sum_by (slot_handles_in slot) tables
