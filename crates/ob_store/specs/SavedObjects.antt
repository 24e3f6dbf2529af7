-- What a save says of the objects, once what refers to them is counted: bodies, births, names, and what their keeper
-- says.
use Rattle.std.specs.Prelude.{ℕ, ◌+◌, nat_lt, Bool, false, if◌then◌else◌, List, [], length, Option, Some, None, Result, Ok, Err, is_none, is_some, map, slice_index_or, sum_by}
use Rattle.std.specs.List.{list_all, range_with_len}
use Rattle.ob_codec.specs.declared.fault.TextFault.{TextFault}
use Rattle.ob_codec.specs.declared.fault.TextFault.TheVariants.{Value}
use Rattle.ob_codec.specs.Reading.{◌>>=◌, Read, where_at}
use Rattle.pin_core.specs.declared.shape.Shape.{Shape}
use Rattle.pin_core.specs.declared.world.Slot.{Slot}
use Rattle.pin_core.specs.Opened.{shown_from}
use Rattle.pin_core.specs.Worlds.{slot_of}
use Rattle.pin_words.specs.Keepers.{KeeperState, locked}
use Rattle.ob_body.specs.declared.body.Body.{Body}
use Rattle.ob_name.specs.Listing.{Rows}
use Rattle.ob_tables.specs.declared.entry.Entry.{Entry}
use Rattle.ob_waits.specs.CountedBodies as waits
use Rattle.ob_waits.specs.Waits.{WaitList}
use Rattle.ob_tables.specs.declared.limits.Limits.{Limits}
use Rattle.ob_store.specs.declared.saved_slot.SavedObject.{SavedObject}
use Rattle.ob_store.specs.declared.saved_slot.SavedSlot.{SavedSlot}
use Rattle.ob_store.specs.Agreement.{made_in}
use Rattle.ob_store.specs.Counting.{counting_all}
use Rattle.ob_store.specs.Objects.{Object, ObjectsState, Places, with_keeper}
use Rattle.ob_store.specs.SavedBirths.{Births, births_from}
use Rattle.ob_store.specs.SavedNames.{names_in}
use Rattle.ob_store.specs.SavedSlots.{rows_text, slots_at}
use Rattle.ob_store.specs.SavedWaits.{all_stand, with_blocks}
use Rattle.ob_store.specs.State.{shape_of}

-- whether a slot has a body exactly where something refers to its object
abbrev pub is_bodied : waits.CountedBodies → ℕ → Bool
is_bodied o k =
    if nat_lt 0 (slice_index_or o.handles k 0 + slice_index_or o.blocks k 0) then is_some
    (slice_index_or o.bodies k None)
    else is_none (slice_index_or o.bodies k None)

-- the same of the first slots
abbrev pub are_bodied : waits.CountedBodies → ℕ → Bool
are_bodied o n = list_all (is_bodied o) (range_with_len 0 n)

-- what a keeper under a lock says that begins with these slots
abbrev pub begun_over : Shape → List Slot → KeeperState
begun_over shape slots = locked shape slots (shown_from 0 slots) []

abbrev pub with_slots : Places → Limits → List Slot → ObjectsState
with_slots p limits slots = with_keeper p (sum_by made_in slots) (begun_over (shape_of limits) slots)

-- the names of objects that have bodies just where something refers to them
abbrev pub bodied_names : Births → Places → Result Rows TextFault
bodied_names order p = if are_bodied p.seen (length p.objects) then names_in order p else Err Value

-- such objects with their names, where their births are distinct
abbrev pub whole_objects : Limits → List Slot → Places → Result (ObjectsState × Rows) TextFault
whole_objects limits slots p = do
  order ← births_from (sum_by made_in slots) [] 0 p.objects
  names ← bodied_names order p
  Ok (with_slots p limits slots, names)

-- the objects of a save with their names: just the entries of these tables are handles, and the places of these waits
-- blocks
abbrev pub whole_at : Limits → List (List (Option Entry)) → WaitList → List ℕ → Read (ObjectsState × Rows)
whole_at limits tables list bytes = do
  read ← slots_at limits.reuse limits.slots limits.max_gen list.clock bytes
  counted ← counting_all read.0.0 tables
  objects ← whole_objects limits read.0.1 (with_blocks list.waits counted)
  Ok (objects, read.1)

-- where these waits, and the owners of mutexes, can be there
abbrev pub objects_at :
    Limits → List (Option ℕ) → List (List (Option Entry)) → WaitList → List ℕ → Read (ObjectsState × Rows)
objects_at limits threads tables list =
    where_at (λ read. all_stand limits.max_recursion threads list.waits read.0) (whole_at limits tables list)

-- what a save says of an object with its body, and of a slot
abbrev pub saved_of : Object → Option Body → SavedObject
saved_of o body = record { birth = o.birth; descr = o.descr; grant = o.grant; body = body; name = o.name }

abbrev pub object_saved : Option Object → Option Body → Option SavedObject
object_saved None body = None
object_saved (Some o) body = Some (saved_of o body)

abbrev pub slot_saved : ObjectsState → ℕ → SavedSlot
slot_saved s k = record {
  generation = (slot_of s.keeper.slots k).generation;
  retired = slice_index_or s.retired k false;
  object = object_saved (slice_index_or s.objects k None) (slice_index_or s.seen.bodies k None);
}

abbrev pub slots_saved : ObjectsState → List SavedSlot
slots_saved s = map (slot_saved s) (range_with_len 0 s.keeper.shape.slots)

abbrev pub objects_text : Bool → ObjectsState → List ℕ
objects_text short s = rows_text short (slots_saved s)
