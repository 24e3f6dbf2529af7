-- The slots that an arena shows, and what ties its parts.
use Rattle.std.specs.Prelude.{◌≡◌, ◌≤◌, Bool, List, length, map, Option, is_some}
use Rattle.ob_arena.specs.declared.phase.Phase.{Phase}
use Rattle.ob_arena.specs.declared.arena.Arena.TheInside.{Inside}
use Rattle.ob_arena.specs.Phases.{is_occupied, is_retired, is_in_use}
use Rattle.ob_arena.specs.Slots.{Slots}

module _ {B : Type 0} where
  abbrev pub slots_shown : List (Option B) → List Phase → Slots B
  slots_shown slots phases = record { bodies = slots; retired = map is_retired phases }

  abbrev pub slots_of : Inside B → Slots B
  slots_of a = slots_shown a.storage.slots a.phases.items

  -- the occupied slots have bodies, and the numbers that are taken are those of the slots that aren't vacant
  pub record ArenaInvariant (slots : List (Option B)) (phases : List Phase) (taken : List Bool) : Type 0 where
    pub at_most : length slots ≤ 65536
    pub occupied : map is_occupied phases ≡ map is_some slots
    pub in_use : taken ≡ map is_in_use phases

  -- the arena's pointer is that of its storage, and its title is to the storage's memory
  pub record IsArena (a : Inside B) : Type 0 where
    pub front : a.front.first ≡ a.storage.front
    pub title_front : a.title.front ≡ a.front.first
    pub title_len : a.title.len ≡ length a.storage.slots
    pub title_alloc : a.title.alloc ≡ a.alloc
    pub tied : ArenaInvariant a.storage.slots a.phases.items a.free
