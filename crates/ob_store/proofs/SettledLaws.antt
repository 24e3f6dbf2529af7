-- The settled state, as the code reaches it: an object ends where its last reference leaves, and then the waits settle.
use Rattle.ob_store.proofs.Cited.{◌≡◌, arith, get_or_past, CountedBodies, HasBodies, IsSettled, IsNamed, ended, State, objects_of, settled}
use Rattle.ob_waits.specs.Waits as waits
use Rattle.ob_waits.specs.Ends.{HasBlocks, with_ends}
use Rattle.ob_waits.proofs.EndsLast.{ends_first, none_to_end}
use Rattle.ob_waits.proofs.Settling.{settled_same}
use Rattle.ob_store.specs.State.{scene_of, with_scene}
use Rattle.ob_store.proofs.BySlot.{get_by_slot, length-by_slot}
use Rattle.ob_store.proofs.NamedLaws.{blocks_past}

-- each slot's blocks are counted
pub has_blocks : (s : State) → IsNamed s.objects s.tables s.waits → HasBlocks (scene_of s)
has_blocks s named = search (arith, blocks_past, get_by_slot, get_or_past, length-by_slot)

-- what ends may end first
pub ends_before : (s : State) → IsNamed s.objects s.tables s.waits
    → settled s ≡ with_scene s (waits.settled (with_ends (scene_of s)))
ends_before s named = search (arith, has_blocks, ends_first)

-- where nothing is to end, the waits alone settle
pub settled_waits : (s : State) → IsNamed s.objects s.tables s.waits → HasBodies (objects_of s)
    → settled s ≡ with_scene s (waits.settled (scene_of s))
settled_waits s named bodied = search (arith, ends_before s named, none_to_end (objects_of s) bodied)

-- and where no wait is ready, what is to end alone ends
pub settled_ends : (s : State) (after : CountedBodies) → IsNamed s.objects s.tables s.waits
    → ended (objects_of s) ≡ after
    → IsSettled after.bodies s.waits → settled s ≡ record s { bodies = after.bodies }
settled_ends s after named is quiet = search (arith, ends_before, settled_same)

-- a state in which nothing is to end and no wait is ready is settled
pub settled_still : (s : State) → IsNamed s.objects s.tables s.waits → HasBodies (objects_of s)
    → IsSettled s.bodies s.waits → settled s ≡ s
settled_still s named bodied quiet = search (arith, settled_waits, settled_same)
