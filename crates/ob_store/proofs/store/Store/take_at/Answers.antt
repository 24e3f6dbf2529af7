use Rattle.ob_store.proofs.WaitedLaws.{kept_told, whole_told}
use Rattle.ob_store.proofs.store.Store.take_at.Goals as goal

pub invariant_of-self : goal.invariant_of-self
invariant_of-self g c = rw c.take_if_answered.ensures.over (kept_told _ _ _ c.self.invariant c.take_if_answered.ensures.state)

pub returns-clause-over : goal.returns-clause-over
returns-clause-over g c =
    rw (← c.self.view_is, c.take_if_answered.ensures.over) (whole_told _ _ _ c.self.invariant c.kept.ensures c.take_if_answered.ensures.state)
