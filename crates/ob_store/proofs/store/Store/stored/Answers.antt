use Rattle.ob_store.proofs.StoredLaws.{matches_state}
use Rattle.ob_store.proofs.store.Store.stored.Goals as goal

pub returns : goal.returns
returns g c = rw (← c.self.view_is) (matches_state _ c.self.invariant c.kept.ensures)
