use Rattle.ob_store.proofs.Cited.{◌∙◌, refl}
use Rattle.ob_store.proofs.KeptLaws.{kept_process, whole_kept}
use Rattle.ob_store.proofs.store.Store.add_process.Goals as goal

pub invariant_of-self-2 : goal.invariant_of-self-2
invariant_of-self-2 g c =
    rw (c.in_ok-add_process.ensures.ok, c.in_ok-add_process.ensures.table)
    (kept_process _ _ c.self.view_is c.self.invariant c.requires.processes c.requires.threads _)

pub returns-clause-ok : goal.returns-clause-ok
returns-clause-ok g c =
    rw (← c.self.view_is) (whole_kept _ (invariant_of-self-2 g c) c.kept.ensures ∙ rw (c.in_ok-add_process.ensures.ok, c.in_ok-add_process.ensures.table)
    refl)
