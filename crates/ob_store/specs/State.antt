-- The abstract state of the object manager: plain lists, by number or by slot. It keeps no count and no directory: both
-- are read off the entries, the waits and the objects.
use Rattle.std.specs.Prelude.{ℕ, ◌+◌, ◌==◌, Bool, true, false, List, [], ◌∷◌, Option, Some, None, if◌then◌else◌, slice_index_or, slice_set, length, map, replicate}
use Rattle.std.specs.List.{range_with_len}
use Rattle.pin_core.specs.declared.id.Id.{Id}
use Rattle.pin_core.specs.declared.shape.Shape.{Shape}
use Rattle.pin_core.specs.declared.world.Slot.{Slot}
use Rattle.pin_words.specs.Keepers.{KeeperState}
use Rattle.ob_body.specs.declared.body.Body.{Body}
use Rattle.ob_arena.specs.Slots.{Slots}
use Rattle.ob_rights.specs.declared.handle_flags.HandleFlags.{HandleFlags}
use Rattle.ob_tables.specs.declared.entry.Entry.{Entry}
use Rattle.ob_tables.specs.Tables as tables
use Rattle.ob_tables.specs.Tables.{with_entry_of, with_flags_of, without_entry_of}
use Rattle.ob_tables.specs.Counts.{entries_in, handles_among, slot_handles}
use Rattle.ob_waits.specs.CountedBodies as waits
use Rattle.ob_waits.specs.declared.wait.Wait.{Wait}
use Rattle.ob_waits.specs.Waits.{Scene, blocks_among, slot_blocks}
use Rattle.ob_waits.specs.Ends.{settled_plainly, with_ends}
use Rattle.ob_tables.specs.declared.limits.Limits.{Limits}
use Rattle.ob_store.specs.Objects.{Object, ObjectAttributes}
use Rattle.ob_tables.specs.Processes.{given, next_number}

-- Numbers of processes, threads and waits are places of lists. Number 0 is never given, so place 0 has nothing. A number
-- that is gone has None.
pub record State : Type 0 where
  pub limits : Limits
  pub processes : List (Option ℕ)  -- the session of each live process
  pub threads : List (Option ℕ)  -- the process of each live thread
  pub tables : List (List (Option Entry))  -- the handle table of each process
  pub objects : List (Option Object)  -- by slot, what of its object never changes
  pub bodies : List (Option Body)  -- by slot, its object's body: none once the object ended
  pub generations : List ℕ  -- by slot
  pub retired : List Bool  -- by slot, whether it is never given again
  pub births : ℕ  -- how many objects were made
  pub waits : List (Option Wait)
  pub clock : ℕ  -- the moment that it is, in units of 100 ns

-- the state, and what the keeper of the slots says
pub record Whole : Type 0 where
  pub state : State
  pub keeper : KeeperState

-- how many entries name the object, and how many places of pending waits
abbrev pub handles_of : State → Id → ℕ
handles_of s id = handles_among id s.tables

abbrev pub blocks_of : State → Id → ℕ
blocks_of s id = blocks_among id s.waits

-- 1 where nothing refers to the object any more, else 0
abbrev pub hold_of : State → Id → ℕ
hold_of s id = if handles_of s id + blocks_of s id == 0 then 1 else 0

-- all that refers to the object: its entries, its places in pending waits, and a hold once there is neither
abbrev pub references_of : State → Id → ℕ
references_of s id = handles_of s id + blocks_of s id + hold_of s id

-- a number for each slot
abbrev pub by_slot : ℕ → (ℕ → ℕ) → List ℕ
by_slot n count = map count (range_with_len 0 n)

-- the objects as waits see them, with all that refers to each counted
abbrev pub objects_of : State → waits.CountedBodies
objects_of s = record {
  bodies = s.bodies;
  handles = by_slot (length s.objects) (λ k. slot_handles k s.tables);
  blocks = by_slot (length s.objects) (λ k. slot_blocks k s.waits);
}

abbrev pub scene_of : State → Scene
scene_of s = record { objects = objects_of s; waits = s.waits }

abbrev pub with_scene : State → Scene → State
with_scene s scene = record s { bodies = scene.objects.bodies; waits = scene.waits }

-- as long as a pending wait is ready, the one of least number takes effect; then each object to which nothing refers
-- ends. The code ends an object as soon as its last reference leaves, and settles by the waits of what changed: both
-- come to one state (SettledLaws)
abbrev pub settled : State → State
settled s = with_scene s (with_ends (settled_plainly (scene_of s)))

-- where a process has as many handles as it may
abbrev pub is_full : State → ℕ → Bool
is_full s process = entries_in (tables.table_of s.tables process) == s.limits.handles

-- the numbers of the next process and of the next thread
abbrev pub next_process : State → ℕ
next_process s = next_number s.limits.reuse s.processes

abbrev pub next_thread : State → ℕ
next_thread s = next_number s.limits.reuse s.threads

-- a new process of a session with its first thread, and with what it inherits of another, if of one
abbrev pub with_member : State → Option ℕ → ℕ → State
with_member s parent session = record s {
  processes = given s.limits.reuse s.processes session;
  threads = given s.limits.reuse s.threads (next_process s);
  tables = tables.with_table s.tables (next_process s) parent;
}

abbrev pub with_process : State → ℕ → State
with_process s session = with_member s None session

abbrev pub with_child : State → ℕ → ℕ → State
with_child s parent session = with_member s (Some parent) session

-- a new thread of a process
abbrev pub with_thread : State → ℕ → State
with_thread s process = record s { threads = given s.limits.reuse s.threads process }

-- a new entry at the least free value of a process
abbrev pub with_entry : State → ℕ → Entry → State
with_entry s process entry = record s { tables = with_entry_of s.tables process entry }

-- the entry of a handle leaves
abbrev pub without_entry : State → ℕ → ℕ → State
without_entry s process handle = record s { tables = without_entry_of s.tables process handle }

-- the entry of a handle has other flags
abbrev pub with_flags : State → ℕ → ℕ → HandleFlags → State
with_flags s process handle flags = record s { tables = with_flags_of s.tables process handle flags }

-- the Id that the next object of a slot has
abbrev pub id_at : State → ℕ → Id
id_at s slot = record { slot = slot; generation = slice_index_or s.generations slot 1 }

-- a new object in a slot: its number is how many were made before it
abbrev pub with_object : State → ℕ → ObjectAttributes → Body → State
with_object s slot attributes body = record s {
  objects = slice_set s.objects slot (Some (record {
    id = id_at s slot;
    birth = s.births;
    descr = attributes.descr;
    grant = attributes.grant;
    name = attributes.name;
  }));
  bodies = slice_set s.bodies slot (Some body);
  births = s.births + 1;
}

-- an object with another body
abbrev pub with_body : State → Id → Body → State
with_body s id body = record s { bodies = slice_set s.bodies id.slot (Some body) }

-- an ended object leaves its slot, which is free at the next generation
abbrev pub freed : State → ℕ → State
freed s slot = record s {
  objects = slice_set s.objects slot None;
  generations = slice_set s.generations slot (slice_index_or s.generations slot 1 + 1);
}

-- or is never given again
abbrev pub given_up : State → ℕ → State
given_up s slot = record s { objects = slice_set s.objects slot None; retired = slice_set s.retired slot true }

-- the slots with their objects, as an arena has them
abbrev pub vacancy : State → Slots Object
vacancy s = record { bodies = s.objects; retired = s.retired }

-- the shape of the slots
abbrev pub shape_of : Limits → Shape
shape_of limits = record { slots = limits.slots; max_pins = limits.max_pins; max_gen = limits.max_gen }

-- the last number that a wait may have: behind it none is given or, where numbers come back, they begin anew
abbrev pub last_wait : Limits → ℕ
last_wait limits = if limits.reuse then 4294967295 else limits.waits

-- the state before any call
abbrev pub opening : Limits → State
opening limits = record {
  limits = limits;
  processes = None ∷ [];
  threads = None ∷ [];
  tables = [] ∷ [];
  objects = replicate limits.slots None;
  bodies = replicate limits.slots None;
  generations = replicate limits.slots 1;
  retired = replicate limits.slots false;
  births = 0;
  waits = None ∷ [];
  clock = 0;
}

abbrev pub generation_of : Slot → ℕ
generation_of x = x.generation
