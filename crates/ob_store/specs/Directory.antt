-- The directory: the named objects that have handles, in the order of their births.
use Rattle.std.specs.Prelude.{ℕ, zero, suc, ◌==◌, ◌&&◌, nat_lt, List, [], ◌++◌, Option, Some, None, if◌then◌else◌}
use Rattle.std.specs.List.{filter_map}
use Rattle.pin_core.specs.declared.id.Id.{Id}
use Rattle.ob_name.specs.Names.{ObjectName}
use Rattle.ob_name.specs.Listing.{Rows}
use Rattle.ob_tables.specs.declared.entry.Entry.{Entry}
use Rattle.ob_tables.specs.Counts.{handles_among}
use Rattle.ob_store.specs.Objects.{Object}
use Rattle.ob_store.specs.State.{State}

abbrev pub named_row : Id → Option ObjectName → Option (ObjectName × Id)
named_row id None = None
named_row id (Some name) = Some (name, id)

-- the row of an object, where it has this number, a name and handles
abbrev pub row_of : List (List (Option Entry)) → ℕ → Option Object → Option (ObjectName × Id)
row_of tables birth None = None
row_of tables birth (Some o) = if (o.birth == birth)
    && nat_lt 0 (handles_among o.id tables) then named_row o.id o.name else None

-- the rows of the objects that were made first
abbrev pub rows_of : List (List (Option Entry)) → List (Option Object) → ℕ → Rows
rows_of tables objects zero = []
rows_of tables objects (suc births) = rows_of tables objects births ++ filter_map (row_of tables births) objects

abbrev pub directory_of : State → Rows
directory_of s = rows_of s.tables s.objects s.births
