use Rattle.ob_store.proofs.TimerLaws.{least_of_bodies}
use Rattle.ob_store.proofs.object_headers.ObjectHeaders.least_due.Goals as goal

pub returns : goal.returns
returns c = rw (← c.self.view_is) (least_of_bodies _ _ _ c.self.invariant.timed c.least.ensures)
