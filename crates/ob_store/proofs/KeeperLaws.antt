-- What holds of objects and their keeper holds over another keeper that begins with the same slots.
use Rattle.ob_store.proofs.Cited.{arith, get_or_past, ObjectsState, KeeperState, IsAgreed, ObjectsInvariant}
use Rattle.pin_core.specs.Opened.{shown_from}
use Rattle.pin_core.proofs.Openings.{shown-once}
use Rattle.pin_words.specs.Keepers.{IsFreshWith}
use Rattle.ob_store.specs.Agreement.{IsListed}

pub all_shown : (s : ObjectsState) → IsAgreed s → IsListed (shown_from 0 s.keeper.slots) s.objects
all_shown s a = search (arith, shown-once, get_or_past)

pub tied_over : (s : ObjectsState) (k : KeeperState) → IsFreshWith k s.keeper.shape s.keeper.slots
    → ObjectsInvariant s →
    ObjectsInvariant (record s { keeper = k })
tied_over s k fresh h = search (arith, all_shown)
