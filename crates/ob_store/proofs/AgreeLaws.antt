-- How the objects go on agreeing with the keeper, slot by slot.
use Rattle.ob_store.proofs.Cited.{◌≡◌, ℕ, ◌<◌, Option, None, arith, get_or, true, is_some, map-set_same, get_or_past, Slot, slot_of, Body, Object, ObjectsState, opened, IsAgreed, KeeperState, closed}
use Rattle.pin_core.specs.declared.word.Phase.TheVariants as phase

abbrev pub object_at : ObjectsState → ℕ → Option Object
object_at s k = get_or s.objects k None

abbrev pub body_at : ObjectsState → ℕ → Option Body
body_at s k = get_or s.seen.bodies k None

abbrev pub slot_at : ObjectsState → ℕ → Slot
slot_at s k = slot_of s.keeper.slots k

-- a slot that has a body is live
pub live_at : (s : ObjectsState) (k : ℕ) → is_some (body_at s k) ≡ true → IsAgreed s → k < s.keeper.shape.slots
    → (slot_at s k).phase ≡ phase.Live
live_at s k there a inside = search arith

-- closing a live slot is not seen by what waits leave as it is
pub opened_closed : (k : KeeperState) (s : ℕ) → (slot_of k.slots s).phase ≡ phase.Live → opened (closed k s) ≡ opened k
opened_closed k s live = search (arith, map-set_same)

-- a slot with an object is one of the keeper's
pub object_within : (s : ObjectsState) (k : ℕ) → is_some (object_at s k) ≡ true → IsAgreed s → k < s.keeper.shape.slots
object_within s k there a = search (arith, get_or_past)

-- and so is a slot with a body
pub body_within : (s : ObjectsState) (k : ℕ) → is_some (body_at s k) ≡ true → IsAgreed s → k < s.keeper.shape.slots
body_within s k there a = search (arith, get_or_past)
