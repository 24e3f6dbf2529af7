-- What C is told of a row of the directory.
use Rattle.std.specs.Prelude.{◌≡◌, ◌<◌, ◌≤◌, ℕ, Bool, true, false, List, ◌++◌, ◌⊎◌, Option, Some, None, drop, length}
use Rattle.pin_core.specs.declared.id.Id.{Id}
use Rattle.ob_name.specs.Names.{ObjectName}
use Rattle.ob_name.specs.Keys.{space_number}
use Rattle.obman_c.specs.declared.reading.Row.{Row}
use Rattle.obman_c.specs.Telling.{object_of}

abbrev pub row_of : ObjectName × Id → Row
row_of found = record { object = object_of found.1; session = space_number found.0.space; length = length found.0.base }

-- the name stands at the front of the bytes and 0 is told; or it doesn't fit, and 122 is told
abbrev pub unnamed_row : Id → Row
unnamed_row id = record { object = object_of id; session = 0; length = 0 }

abbrev pub RowTells : ObjectName × Id → ℕ → Row → List ℕ → List ℕ → Type 0
RowTells found status row before after = (row ≡ row_of found)
    × (((length found.0.base ≤ length before) × (status ≡ 0)
    × (after ≡ found.0.base ++ drop (length found.0.base) before))
    ⊎ ((length before < length found.0.base) × (status ≡ 122) × (after ≡ before)))

-- the same of the name of an object, which may have none: then it has no byte; 6 where there is no such object
abbrev pub NameTells : Id → Option ObjectName → ℕ → Row → List ℕ → List ℕ → Type 0
NameTells id (Some name) status row before after = RowTells (name, id) status row before after
NameTells id None status row before after = (status ≡ 0) × (row ≡ unnamed_row id) × (after ≡ before)

abbrev pub NameTold : Bool → Id → Option ObjectName → ℕ → Row → Row → List ℕ → List ℕ → Type 0
NameTold true id name status row row' before after = NameTells id name status row' before after
NameTold false id name status row row' before after = (status ≡ 6) × (row' ≡ row) × (after ≡ before)

abbrev pub RowTold : Option (ObjectName × Id) → ℕ → Row → Row → List ℕ → List ℕ → Type 0
RowTold (Some found) status row row' name name' = RowTells found status row' name name'
RowTold None status row row' name name' = (status ≡ 259) × (row' ≡ row) × (name' ≡ name)
