-- What a save says of the slots: how it is spelled, which slots may be so, and what they are in a store.
use Rattle.std.specs.Prelude.{◌≡◌, ℕ, suc, ◌-◌, ◌==◌, ◌<◌, ◌^◌, nat_le, nat_lt, Bool, true, false, not, ◌&&◌, ◌||◌, if◌then◌else◌, List, [], ◌∷◌, ◌++◌, length, map, replicate, Option, Some, None, Ok, is_none}
use Rattle.std.specs.List.{flat_map}
use Rattle.std.specs.Int.{w32, w64, to_le_bytes}
use Rattle.ob_codec.specs.Reading.{Read, as_at, both_at, flag_at, items_at, list_at, number_at, option_at, some_at, where_at}
use Rattle.ob_codec.specs.Spelling.{Any, BothFit, OptionFits, both, flag, list, option}
use Rattle.ob_rights.specs.declared.rights.Rights.{Rights}
use Rattle.ob_rights.specs.Spelling.{RightsFit, rights_at, rights_text}
use Rattle.pin_core.specs.declared.id.Id.{Id}
use Rattle.pin_core.specs.declared.descr.Descr.{Descr}
use Rattle.pin_core.specs.declared.world.Slot.{Slot}
use Rattle.pin_core.specs.Descrs.{IsGiven, same_descr}
use Rattle.pin_core.specs.Spelling.{descr_at, descr_text}
use Rattle.pin_core.specs.Worlds.{auto_event}
use Rattle.ob_name.specs.Names.{ObjectName}
use Rattle.ob_name.specs.Spelling.{NameFits, name_text, name_text_at}
use Rattle.ob_body.specs.declared.body.Body.{Body}
use Rattle.ob_body.specs.Body.{due_of}
use Rattle.ob_body.specs.Spelling.{BodyFits, body_at, body_text}
use Rattle.ob_waits.specs.Form.{form_of}
use Rattle.ob_store.specs.declared.saved_slot.SavedObject.{SavedObject}
use Rattle.ob_store.specs.declared.saved_slot.SavedSlot.{SavedSlot}
use Rattle.ob_store.specs.Objects.{Object, Places, with_retired, with_header_of}
use Rattle.ob_store.specs.Agreement.{phase_of, vacant_phase}

-- an object: its number, its descriptor, its grant, its body, its name
abbrev pub ObjectParts : Type 0
ObjectParts = ℕ × (Descr × (Rights × (Option Body × Option ObjectName)))

abbrev pub object_of : ObjectParts → SavedObject
object_of p = record { birth = p.0; descr = p.1.0; grant = p.1.1.0; body = p.1.1.1.0; name = p.1.1.1.1 }

abbrev pub object_parts : SavedObject → ObjectParts
object_parts o = (o.birth, (o.descr, (o.grant, (o.body, o.name))))

abbrev pub object_text : SavedObject → List ℕ
object_text o =
    both (to_le_bytes w64) (both descr_text (both rights_text (both (option body_text) (option name_text))))
    (object_parts o)

-- what is read of its grant, its body and its name
abbrev pub content_at : List ℕ → Read (Rights × (Option Body × Option ObjectName))
content_at = both_at rights_at (both_at (option_at body_at) (option_at name_text_at))

abbrev pub object_at : List ℕ → Read SavedObject
object_at = as_at object_of (both_at (number_at w64) (both_at descr_at content_at))

abbrev pub ObjectFits : SavedObject → Type 0
ObjectFits o =
    BothFit (λ n. n < 2 ^ 64) (BothFit IsGiven (BothFit RightsFit
    (BothFit (OptionFits BodyFits) (OptionFits NameFits))))
    (object_parts o)

-- a slot: its generation, whether it is never given again, its object
abbrev pub SlotParts : Type 0
SlotParts = ℕ × (Bool × Option SavedObject)

abbrev pub slot_of : SlotParts → SavedSlot
slot_of p = record { generation = p.0; retired = p.1.0; object = p.1.1 }

abbrev pub slot_parts : SavedSlot → SlotParts
slot_parts x = (x.generation, (x.retired, x.object))

abbrev pub slot_text : SavedSlot → List ℕ
slot_text x = both (to_le_bytes w32) (both flag (option object_text)) (slot_parts x)

abbrev pub any_slot_at : List ℕ → Read SavedSlot
any_slot_at = as_at slot_of (both_at (number_at w32) (both_at flag_at (option_at object_at)))

-- the descriptor that says what a body is
abbrev pub descr_of : Body → Descr
descr_of b = record { kind = (form_of b).kind; manual = (form_of b).manual; max = (form_of b).maximum }

abbrev pub is_after : ℕ → Option ℕ → Bool
is_after clock None = true
is_after clock (Some due) = nat_lt clock due

-- a body is what its object's descriptor says, and no timer is due yet
abbrev pub body_stands : ℕ → Descr → Option Body → Bool
body_stands clock d None = true
body_stands clock d (Some b) = same_descr (descr_of b) d && is_after clock (due_of b)

abbrev pub object_stands : ℕ → Option SavedObject → Bool
object_stands clock None = true
object_stands clock (Some o) = body_stands clock o.descr o.body

-- a slot is retired at the last generation alone, and without an object
abbrev pub may_retire : ℕ → SavedSlot → Bool
may_retire max_gen x = not x.retired || ((x.generation == max_gen) && is_none x.object)

-- whether a slot may be so
abbrev pub slot_stands : ℕ → ℕ → SavedSlot → Bool
slot_stands max_gen clock x =
    (nat_le 1 x.generation && nat_le x.generation max_gen) && (may_retire max_gen x && object_stands clock x.object)

abbrev pub slot_at : ℕ → ℕ → List ℕ → Read SavedSlot
slot_at max_gen clock = where_at (slot_stands max_gen clock) any_slot_at

-- a slot that has a spelling, and one that may be so too
abbrev pub AnySlotFits : SavedSlot → Type 0
AnySlotFits x = BothFit (λ n. n < 2 ^ 32) (BothFit Any (OptionFits ObjectFits)) (slot_parts x)

abbrev pub SlotFits : ℕ → ℕ → SavedSlot → Type 0
SlotFits max_gen clock x = AnySlotFits x × (slot_stands max_gen clock x ≡ true)

-- what it is in a store: the object
abbrev pub stored_object : Id → SavedObject → Object
stored_object id o = record { id = id; birth = o.birth; descr = o.descr; grant = o.grant; name = o.name }

abbrev pub object_in_slot : Id → Option SavedObject → Option Object
object_in_slot id None = None
object_in_slot id (Some o) = Some (stored_object id o)

abbrev pub object_from : ℕ → SavedSlot → Option Object
object_from slot x = object_in_slot (record { slot = slot; generation = x.generation }) x.object

abbrev pub objects_from : ℕ → List SavedSlot → List (Option Object)
objects_from slot [] = []
objects_from slot (x ∷ xs) = object_from slot x ∷ objects_from (suc slot) xs

-- its body
abbrev pub body_in : Option SavedObject → Option Body
body_in None = None
body_in (Some o) = o.body

abbrev pub body_from : SavedSlot → Option Body
body_from x = body_in x.object

abbrev pub is_retired : SavedSlot → Bool
is_retired x = x.retired

-- and the slot with which its keeper begins
abbrev pub keeper_slot_with : ℕ → Bool → Option SavedObject → Slot
keeper_slot_with generation retired None = record {
  generation = generation;
  phase = vacant_phase retired;
  descr =
      auto_event;
}
keeper_slot_with generation retired (Some o) = record {
  generation = generation;
  phase = phase_of o.body;
  descr =
      o.descr;
}

abbrev pub keeper_slot : SavedSlot → Slot
keeper_slot x = keeper_slot_with x.generation x.retired x.object

-- all slots, before anything that refers to their objects is counted
abbrev pub places_from : List SavedSlot → Places
places_from xs = record {
  objects = objects_from 0 xs;
  seen = record { bodies = map body_from xs; handles = replicate (length xs) 0; blocks = replicate (length xs) 0 };
  retired = map is_retired xs;
}

abbrev pub slots_from : List SavedSlot → Places × List Slot
slots_from xs = (places_from xs, map keeper_slot xs)

-- a slot that never had an object
abbrev pub fresh_slot : SavedSlot
fresh_slot = record { generation = 1; retired = false; object = None }

abbrev pub is_fresh : SavedSlot → Bool
is_fresh x = (x.generation == 1) && (not x.retired && is_none x.object)

-- slots up to the last that ever had an object
abbrev pub with_used : SavedSlot → List SavedSlot → List SavedSlot
with_used x [] = if is_fresh x then [] else x ∷ []
with_used x (y ∷ ys) = x ∷ y ∷ ys

abbrev pub used : List SavedSlot → List SavedSlot
used [] = []
used (x ∷ xs) = with_used x (used xs)

-- whether the last of some slots, if there is one, ever had an object
abbrev pub ends_used : List SavedSlot → Bool
ends_used [] = true
ends_used (x ∷ []) = not (is_fresh x)
ends_used (x ∷ y ∷ ys) = ends_used (y ∷ ys)

-- so many slots that begin with these, and of which the others never had an object
abbrev pub with_fresh : ℕ → List SavedSlot → List SavedSlot
with_fresh n xs = xs ++ replicate (n - length xs) fresh_slot

abbrev pub filled : ℕ → List SavedSlot → Option (List SavedSlot)
filled n xs = if ends_used xs then Some (with_fresh n xs) else None

-- so many slots: each of them, or how many there are up to the last that ever had an object, and these
abbrev pub rows_text : Bool → List SavedSlot → List ℕ
rows_text false xs = flat_map slot_text xs
rows_text true xs = list slot_text (used xs)

abbrev pub rows_at : Bool → ℕ → ℕ → ℕ → List ℕ → Read (List SavedSlot)
rows_at false n max_gen clock = items_at (slot_at max_gen clock) n
rows_at true n max_gen clock = some_at (filled n) (list_at n (slot_at max_gen clock))

-- how many stand there, and what is begun with them: the places, their keeper's slots, and whether the last one ever had
-- an object
abbrev pub count_at : Bool → ℕ → List ℕ → Read ℕ
count_at false n bytes = Ok (n, bytes)
count_at true n bytes = where_at (λ count. nat_le count n) (number_at w32) bytes

abbrev pub begun_with : ℕ → List SavedSlot → Places × (List Slot × Bool)
begun_with n xs = (places_from (with_fresh n xs), (map keeper_slot xs, ends_used xs))

abbrev pub slots_at : Bool → ℕ → ℕ → ℕ → List ℕ → Read (Places × List Slot)
slots_at short n max_gen clock = as_at slots_from (rows_at short n max_gen clock)

-- one more slot: its object comes back to it, or it is never given again, or it stays as it was
abbrev pub with_saved : Places → ℕ → ℕ → Bool → Option SavedObject → Places
with_saved p slot generation retired None = if retired then with_retired p slot else p
with_saved p slot generation retired (Some o) =
    with_header_of p slot (stored_object (record { slot = slot; generation = generation }) o) o.body 0
