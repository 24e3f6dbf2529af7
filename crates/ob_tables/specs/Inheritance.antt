-- What a child inherits of a handle table.
use Rattle.std.specs.Prelude.{List, [], ◌∷◌, map, Option, Some, None, if◌then◌else◌}
use Rattle.ob_rights.specs.Rights.{within}
use Rattle.ob_tables.specs.declared.entry.Entry.{Entry}

-- the entry of a place, where it has the flag INHERIT, which is 1
abbrev pub inheritable : Option Entry → Option Entry
inheritable None = None
inheritable (Some entry) = if within 1 entry.flags.0 then Some entry else None

-- a place before others, unless nothing stands there or after it
abbrev pub before : Option Entry → List (Option Entry) → List (Option Entry)
before None [] = []
before None (next ∷ table) = None ∷ next ∷ table
before (Some entry) table = Some entry ∷ table

-- a table up to its last entry
abbrev pub trimmed : List (Option Entry) → List (Option Entry)
trimmed [] = []
trimmed (place ∷ table) = before place (trimmed table)

-- the table of a child: just the inheritable entries, at the same places
abbrev pub inherited : List (Option Entry) → List (Option Entry)
inherited table = trimmed (map inheritable table)
