-- The objects in their slots, how much refers to each, and the keeper of the slots.
use Rattle.std.specs.Prelude.{ℕ, ◌+◌, ◌-◌, ◌==◌, Bool, true, false, List, [], ◌∷◌, map, replicate, Option, Some, None, if◌then◌else◌, slice_index_or, slice_set}
use Rattle.ob_rights.specs.declared.rights.Rights.{Rights}
use Rattle.pin_core.specs.declared.id.Id.{Id}
use Rattle.pin_core.specs.declared.descr.Descr.{Descr}
use Rattle.pin_core.specs.declared.word.Phase.{Phase}
use Rattle.pin_core.specs.declared.word.Phase.TheVariants as phase
use Rattle.pin_core.specs.declared.world.Slot.{Slot}
use Rattle.pin_words.specs.Keepers.{KeeperState, with_slots, stored, published, closed}
use Rattle.pin_words.specs.Views.{id_of}
use Rattle.ob_name.specs.Names.{ObjectName}
use Rattle.ob_body.specs.declared.body.Body.{Body}
use Rattle.ob_arena.specs.Slots.{Slots}
use Rattle.ob_tables.specs.declared.entry.Entry.{Entry}
use Rattle.ob_waits.specs.CountedBodies as waits
use Rattle.ob_rights.specs.declared.kind.Kind.TheVariants.{Event}
use Rattle.ob_store.specs.declared.label.Label.{Label}
use Rattle.ob_store.specs.declared.object_header.ObjectHeader.{ObjectHeader}

-- what of an object never changes; its body stands apart
pub record Object : Type 0 where
  pub id : Id
  pub birth : ℕ  -- objects are numbered by their births, from 0
  pub descr : Descr
  pub grant : Rights
  pub name : Option ObjectName

-- by slot: the object; its body, its handles and its blocks; and whether the slot is retired
pub record Places : Type 0 where
  pub objects : List (Option Object)
  pub seen : waits.CountedBodies
  pub retired : List Bool

-- the same, how many objects were made, and what the keeper of the slots says
pub record ObjectsState : Type 0 where
  pub objects : List (Option Object)
  pub seen : waits.CountedBodies
  pub retired : List Bool
  pub births : ℕ
  pub keeper : KeeperState

abbrev pub with_keeper : Places → ℕ → KeeperState → ObjectsState
with_keeper p births keeper = record {
  objects = p.objects;
  seen = p.seen;
  retired = p.retired;
  births = births;
  keeper = keeper;
}

abbrev pub places_in : ObjectsState → Places
places_in s = record { objects = s.objects; seen = s.seen; retired = s.retired }

-- what of an object stands beside its header: its label, and its name where the label says that it has one
pub record Tag : Type 0 where
  pub birth : ℕ
  pub descr : Descr
  pub name : Option ObjectName

abbrev pub tag_of : Label → Option ObjectName → Tag
tag_of label name = record { birth = label.birth; descr = label.descr; name = if label.is_named then name else None }

-- by slot
abbrev pub tags_in : List Label → List (Option ObjectName) → List Tag
tags_in [] names = []
tags_in (label ∷ labels) [] = tag_of label None ∷ tags_in labels []
tags_in (label ∷ labels) (name ∷ names) = tag_of label name ∷ tags_in labels names

-- where no object is
abbrev pub no_label : Label
no_label = record { birth = 0; descr = record { kind = Event; manual = false; max = 0 }; is_named = false }

abbrev pub no_tag : Tag
no_tag = tag_of no_label None

-- an object is its header and its tag
abbrev pub object_of : ObjectHeader → Tag → Object
object_of header tag = record { id = header.id; birth = tag.birth; descr = tag.descr; grant = header.grant; name = tag.name }

-- the name of an object, if there is one
abbrev pub name_in : Option Object → Option ObjectName
name_in None = None
name_in (Some object) = object.name

abbrev pub object_at : Option ObjectHeader → Tag → Option Object
object_at None tag = None
object_at (Some header) tag = Some (object_of header tag)

abbrev pub objects_in : List (Option ObjectHeader) → List Tag → List (Option Object)
objects_in [] tags = []
objects_in (header ∷ headers) [] = object_at header no_tag ∷ objects_in headers []
objects_in (header ∷ headers) (tag ∷ tags) = object_at header tag ∷ objects_in headers tags

abbrev pub header_body : Option ObjectHeader → Option Body
header_body None = None
header_body (Some header) = header.body

abbrev pub header_handles : Option ObjectHeader → ℕ
header_handles None = 0
header_handles (Some header) = header.handles

abbrev pub header_blocks : Option ObjectHeader → ℕ
header_blocks None = 0
header_blocks (Some header) = header.blocks

-- an object with one handle, or one block, fewer: without references it has no body
abbrev pub header_handle_left : ObjectHeader → ObjectHeader
header_handle_left header = record header {
  handles = header.handles - 1;
  body = if (header.handles - 1) + header.blocks == 0 then None else header.body;
}

abbrev pub header_block_left : ObjectHeader → ObjectHeader
header_block_left header = record header {
  blocks = header.blocks - 1;
  body = if header.handles + (header.blocks - 1) == 0 then None else header.body;
}

abbrev pub seen_in : List (Option ObjectHeader) → waits.CountedBodies
seen_in headers = record {
  bodies = map header_body headers;
  handles = map header_handles headers;
  blocks = map header_blocks headers;
}

-- one body changed
abbrev pub changed_at : waits.CountedBodies → ℕ → (Option Body → Option Body) → waits.CountedBodies
changed_at o slot change = record o { bodies = slice_set o.bodies slot (change (slice_index_or o.bodies slot None)) }

abbrev pub places_of : Slots ObjectHeader → List Tag → Places
places_of s tags = record { objects = objects_in s.bodies tags; seen = seen_in s.bodies; retired = s.retired }

-- the slots with their objects, as an arena has them
abbrev pub vacancy : Places → Slots Object
vacancy p = record { bodies = p.objects; retired = p.retired }

-- no slot has an object
abbrev pub vacant_places : ℕ → Places
vacant_places n = record {
  objects = replicate n None;
  seen = record { bodies = replicate n None; handles = replicate n 0; blocks = replicate n 0 };
  retired = replicate n false;
}

-- an object in a slot, with so many handles and no block
abbrev pub with_header_of : Places → ℕ → Object → Option Body → ℕ → Places
with_header_of p slot object body handles = record p {
  objects = slice_set p.objects slot (Some object);
  seen = record {
    bodies = slice_set p.seen.bodies slot body;
    handles = slice_set p.seen.handles slot handles;
    blocks = slice_set p.seen.blocks slot 0;
  };
}

-- a new object in a slot, with one handle
abbrev pub with_header : Places → ℕ → Object → Body → Places
with_header p slot object body = with_header_of p slot object (Some body) 1

abbrev pub with_handle : Places → ℕ → Places
with_handle p slot = record p {
  seen = record p.seen {
    handles =
        slice_set p.seen.handles slot (slice_index_or p.seen.handles slot 0 + 1);
  };
}

-- whether nothing refers to the slot's object once a handle has left
abbrev pub is_last_handle : Places → ℕ → Bool
is_last_handle p slot = (slice_index_or p.seen.handles slot 0 - 1) + slice_index_or p.seen.blocks slot 0 == 0

-- one handle fewer; an object that nothing refers to any more has no body
abbrev pub without_handle : Places → ℕ → Places
without_handle p slot = record p {
  seen = record p.seen {
    handles = slice_set p.seen.handles slot (slice_index_or p.seen.handles slot 0 - 1);
    bodies = if is_last_handle p slot then slice_set p.seen.bodies slot None else p.seen.bodies;
  };
}

abbrev pub with_block : Places → ℕ → Places
with_block p slot = record p {
  seen = record p.seen {
    blocks =
        slice_set p.seen.blocks slot (slice_index_or p.seen.blocks slot 0 + 1);
  };
}

-- whether nothing refers to the slot's object once a block has left
abbrev pub is_last_block : Places → ℕ → Bool
is_last_block p slot = slice_index_or p.seen.handles slot 0 + (slice_index_or p.seen.blocks slot 0 - 1) == 0

-- a slot without its object
abbrev pub without_header : Places → ℕ → Places
without_header p slot = record p {
  objects = slice_set p.objects slot None;
  seen = record {
    bodies = slice_set p.seen.bodies slot None;
    handles = slice_set p.seen.handles slot 0;
    blocks = slice_set p.seen.blocks slot 0;
  };
}

abbrev pub with_retired : Places → ℕ → Places
with_retired p slot = record p { retired = slice_set p.retired slot true }

-- what waits leave as it is: all but bodies and blocks
pub record Rest : Type 0 where
  pub objects : List (Option Object)
  pub handles : List ℕ
  pub retired : List Bool

abbrev pub rest_of : Places → Rest
rest_of p = record { objects = p.objects; handles = p.seen.handles; retired = p.retired }

-- what a create says of a new object (NT's OBJECT_ATTRIBUTES)
pub record ObjectAttributes : Type 0 where
  pub descr : Descr
  pub grant : Rights
  pub name : Option ObjectName

-- the object that comes to a slot: the slot gives its Id, and the objects made before it are its number
abbrev pub object_in : ObjectsState → ℕ → ObjectAttributes → Object
object_in s slot attributes = record {
  id = id_of s.keeper.slots slot;
  birth = s.births;
  descr = attributes.descr;
  grant = attributes.grant;
  name = attributes.name;
}

-- a new object: its descriptor is stored, and then it is published
abbrev pub with_object : ObjectsState → ℕ → ObjectAttributes → Body → ObjectsState
with_object s slot attributes body = with_keeper (with_header (places_in s) slot (object_in s slot attributes) body) (s.births + 1)
    (published (stored s.keeper slot attributes.descr) slot)

-- one handle more
abbrev pub with_handle_of : ObjectsState → ℕ → ObjectsState
with_handle_of s slot = with_keeper (with_handle (places_in s) slot) s.births s.keeper

-- one handle more for each place of a table that has an entry
abbrev pub with_handle_at : ObjectsState → Option Entry → ObjectsState
with_handle_at s None = s
with_handle_at s (Some entry) = with_handle_of s entry.id.slot

abbrev pub with_handles_of : ObjectsState → List (Option Entry) → ObjectsState
with_handles_of s [] = s
with_handles_of s (place ∷ places) = with_handles_of (with_handle_at s place) places

-- one handle fewer; the slot of an object that nothing refers to any more closes
abbrev pub without_handle_of : ObjectsState → ℕ → ObjectsState
without_handle_of s slot = with_keeper (without_handle (places_in s) slot) s.births
    (if is_last_handle (places_in s) slot then closed s.keeper slot else s.keeper)

-- one block more
abbrev pub with_block_of : ObjectsState → ℕ → ObjectsState
with_block_of s slot = with_keeper (with_block (places_in s) slot) s.births s.keeper

-- one block more for each place of a list
abbrev pub with_blocks_of : ObjectsState → List Id → ObjectsState
with_blocks_of s [] = s
with_blocks_of s (id ∷ ids) = with_blocks_of (with_block_of s id.slot) ids

-- a closing slot as it was when it was live
abbrev pub open_phase : Phase → Phase
open_phase phase.Free = phase.Free
open_phase phase.Live = phase.Live
open_phase phase.Closing = phase.Live
open_phase phase.Retired = phase.Retired

abbrev pub open_slot : Slot → Slot
open_slot s = record s { phase = open_phase s.phase }

abbrev pub opened : KeeperState → KeeperState
opened k = with_slots k (map open_slot k.slots)

-- what waits leave as it is: of the keeper all but that slots close
pub record KeptRest : Type 0 where
  pub rest : Rest
  pub births : ℕ
  pub keeper : KeeperState

abbrev pub kept_rest : ObjectsState → KeptRest
kept_rest s = record { rest = rest_of (places_in s); births = s.births; keeper = opened s.keeper }
