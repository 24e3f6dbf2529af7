use Rattle.ob_store.proofs.TimerLaws.{none_due_slot, some_due}
use Rattle.ob_store.proofs.object_headers.ObjectHeaders.next_due.Goals as goal

pub returns-clause-found : goal.returns-clause-found
returns-clause-found c = rw (← c.self.view_is) (some_due _ _ _ _ c.self.invariant.timed c.due_by.ensures.found)

pub returns-clause-none : goal.returns-clause-none
returns-clause-none c = rw (← c.self.view_is) (none_due_slot _ _ _ _ c.self.invariant.timed c.due_by.ensures.none)
