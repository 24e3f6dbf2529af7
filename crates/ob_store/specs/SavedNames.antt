-- The names of a save. The directory isn't written: it follows from the objects, in the order of their births.
use Rattle.std.specs.Prelude.{ℕ, nat_lt, Bool, if◌then◌else◌, List, [], ◌∷◌, ◌++◌, Option, Some, None, is_none, Result, Ok, Err, slice_index_or}
use Rattle.std.specs.Map.{values_of}
use Rattle.ob_codec.specs.declared.fault.TextFault.{TextFault}
use Rattle.ob_codec.specs.declared.fault.TextFault.TheVariants.{Value}
use Rattle.ob_codec.specs.Reading.{◌>>=◌}
use Rattle.pin_core.specs.declared.id.Id.{Id}
use Rattle.ob_name.specs.Names.{ObjectName}
use Rattle.ob_name.specs.Listing.{Rows, find_name}
use Rattle.ob_name.specs.Order.{Row}
use Rattle.ob_store.specs.Directory.{named_row}
use Rattle.ob_store.specs.Objects.{Object, Places}
use Rattle.ob_store.specs.SavedBirths.{Births}

-- the row of an object, where it has handles and a name
abbrev pub handled_row : Bool → Option Object → Option Row
handled_row handled None = None
handled_row handled (Some o) = if handled then named_row o.id o.name else None

-- the row of the object in a slot, by the stored count of its handles
abbrev pub slot_row : Places → ℕ → Option Row
slot_row p slot = handled_row (nat_lt 0 (slice_index_or p.seen.handles slot 0)) (slice_index_or p.objects slot None)

-- a name comes behind the others, unless it stands there already
abbrev pub with_name : Rows → ObjectName → Id → Result Rows TextFault
with_name rows name id = if is_none (find_name name rows) then Ok (rows ++ (name, id) ∷ []) else Err Value

abbrev pub with_row : Rows → Option Row → Result Rows TextFault
with_row rows None = Ok rows
with_row rows (Some row) = with_name rows row.0 row.1

-- the names of the objects in these slots come behind the others
abbrev pub named_from : Places → Rows → List ℕ → Result Rows TextFault
named_from p rows [] = Ok rows
named_from p rows (slot ∷ slots) = do
  more ← with_row rows (slot_row p slot)
  named_from p more slots

-- the names of all objects, in the order of their births
abbrev pub names_in : Births → Places → Result Rows TextFault
names_in order p = named_from p [] (values_of order)
