use Rattle.ob_store.proofs.ConsistentLaws.{consistent}
use Rattle.ob_store.proofs.store.Store.kept.Goals as goal

pub returns : goal.returns
returns g c = rw (← c.self.view_is) (consistent _ c.self.invariant c.kept.ensures c.wait_of.ensures.kept c.clock.ensures.ahead)
