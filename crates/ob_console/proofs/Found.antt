-- What a meeting tells of a slot: its object, where the reader holds something there.
use Rattle.ob_console.proofs.Cited.{arith, ◌≡◌, ◌<◌, Some, None, slice_index_or, refl, Id, tally, same_id, ReaderView, IsConsistent, IsFound, IsMet, State, Whole}
use Rattle.ob_store.specs.Objects.{Object}
use Rattle.ob_manager.specs.Counting.{card}
use Rattle.ob_manager.specs.declared.card.Card.{Card}

pub met_found : (w : Whole) (r r' : ReaderView) (id : Id) → IsConsistent w → id.slot < w.state.limits.slots
    → 0 < tally (same_id id) r.held → IsMet w.keeper r id.slot r' → IsFound id r (slice_index_or w.state.objects id.slot None)
met_found w r r' id consistent inside held met =
    let there = met.2.3.held id held refl in search arith

abbrev card_of : Object → Card
card_of o = record { id = o.id; descr = o.descr; grant = o.grant }

pub card_found : (s : State) (r : ReaderView) (id : Id) (found : IsFound id r (slice_index_or s.objects id.slot None))
    → card s id ≡ Some (card_of found.object)
card_found s r id found = search arith
