use Rattle.ob_store.proofs.PlacedLaws.{thread_tabled}
use Rattle.ob_store.proofs.store.Store.process.Goals as goal

pub returns-clause-table : goal.returns-clause-table
returns-clause-table g c = rw (← c.self.view_is) (thread_tabled _ _ _ _ _ c.self.invariant.sound.processes_kept c.process.ensures)
