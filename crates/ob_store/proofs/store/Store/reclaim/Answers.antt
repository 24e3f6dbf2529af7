use Rattle.ob_store.proofs.Cited.{ap, settled}
use Rattle.ob_store.proofs.KeptLaws.{settled_kept}
use Rattle.ob_store.proofs.ReclaimedLaws.{kept_reclaimed, reclaimed_state}
use Rattle.ob_store.proofs.store.Store.reclaim.Goals as goal

pub invariant_of-self : goal.invariant_of-self
invariant_of-self g c =
    kept_reclaimed _ c.self.invariant c.kept.ensures _ _ c.self.view_is c.requires.object c.requires.ended _ _ c.reclaim-answer.ensures.kind

pub returns-clause-state : goal.returns-clause-state
returns-clause-state g c =
    rw (← c.self.view_is, ← settled_kept _ (invariant_of-self g c) c.kept-2.ensures)
    (ap settled (reclaimed_state _ c.self.invariant c.kept.ensures _ _ c.self.view_is c.requires.object c.requires.ended _ _ c.reclaim-answer.ensures.kind))
