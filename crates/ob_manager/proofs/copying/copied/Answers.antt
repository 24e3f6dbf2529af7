use Rattle.ob_manager.proofs.EntryStays.{entry_stays}
use Rattle.ob_manager.proofs.copying.copied.Goals as goal

pub returns-in-Ok-place_entry-clause-stays : goal.returns-in-Ok-place_entry-clause-stays
returns-in-Ok-place_entry-clause-stays g c = search (entry_stays, c.in-Ok-place_entry.ensures.plain)
