use Rattle.ob_store.proofs.PlacedLaws.{process_tabled}
use Rattle.ob_store.proofs.store.Store.session.Goals as goal

pub returns-clause-table : goal.returns-clause-table
returns-clause-table g c = rw (← c.self.view_is) (process_tabled _ _ _ _ _ c.self.invariant.sound.processes_kept c.session.ensures)
