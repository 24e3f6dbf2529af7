-- A held Id has its object.
use Rattle.ob_store.proofs.Cited.{Id, slot_of, id_of, ObjectsInvariant, ObjectsState, ◌≡◌, ◌<◌, true, None, arith, slice_index_or}
use Rattle.pin_core.specs.Safety.{may_be_held}
use Rattle.pin_words.specs.declared.view.ReaderView.{ReaderView}
use Rattle.pin_words.specs.Plays.{Show}
use Rattle.ob_store.specs.Meetings.{IsFound}

-- what the keeper says of the slot of a held Id is what the object there has
pub held_found : (s : ObjectsState) (r : ReaderView) (id : Id) → ObjectsInvariant s → id.slot < s.keeper.shape.slots
    → id ≡ id_of s.keeper.slots id.slot → may_be_held (slot_of s.keeper.slots id.slot).phase ≡ true
    → Show id (slot_of s.keeper.slots id.slot).descr r.notes → IsFound id r (slice_index_or s.objects id.slot None)
held_found s r id tied inside same held show = search arith
