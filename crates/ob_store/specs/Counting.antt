-- The handles of the objects, counted over the tables: each entry has to name an object that is there.
use Rattle.std.specs.Prelude.{nat_lt, ◌&&◌, Bool, false, if◌then◌else◌, List, [], ◌∷◌, Option, Some, None, Result, Ok, Err, length, replicate, slice_index_or}
use Rattle.ob_codec.specs.declared.fault.TextFault.{TextFault}
use Rattle.ob_codec.specs.declared.fault.TextFault.TheVariants.{Value}
use Rattle.ob_codec.specs.Reading.{◌>>=◌}
use Rattle.pin_core.specs.declared.id.Id.{Id}
use Rattle.pin_core.specs.Holds.{same_id}
use Rattle.ob_tables.specs.declared.entry.Entry.{Entry}
use Rattle.ob_store.specs.Objects.{Object, Places, with_handle}

abbrev pub is_its : Id → Option Object → Bool
is_its id None = false
is_its id (Some o) = same_id o.id id

-- whether the object of an Id is there, and its count has room
abbrev pub may_count : Places → Id → Bool
may_count p id =
    is_its id (slice_index_or p.objects id.slot None) && nat_lt (slice_index_or p.seen.handles id.slot 0) 4294967295

-- one handle more, unless what it names isn't there
abbrev pub counting_one : Places → Id → Result Places TextFault
counting_one p id = if may_count p id then Ok (with_handle p id.slot) else Err Value

-- the same where a place has an entry
abbrev pub counting : Places → Option Entry → Result Places TextFault
counting p None = Ok p
counting p (Some e) = counting_one p e.id

-- the same for each place of a table, and of all tables
abbrev pub counting_in : Places → List (Option Entry) → Result Places TextFault
counting_in p [] = Ok p
counting_in p (place ∷ places) = do
  q ← counting p place
  counting_in q places

abbrev pub counting_all : Places → List (List (Option Entry)) → Result Places TextFault
counting_all p [] = Ok p
counting_all p (table ∷ tables) = do
  q ← counting_in p table
  counting_all q tables

-- before any handle is counted
abbrev pub uncounted : Places → Places
uncounted p = record p { seen = record p.seen { handles = replicate (length p.objects) 0 } }
