use Rattle.ob_store.proofs.Cited.{◌∙◌, refl}
use Rattle.ob_store.proofs.KeptLaws.{kept_thread, whole_kept}
use Rattle.ob_store.proofs.store.Store.add_thread.Goals as goal

pub invariant_of-self-2 : goal.invariant_of-self-2
invariant_of-self-2 g c = rw c.in_ok-add_thread.ensures.ok
    (kept_thread _ _ c.self.invariant (rw (← c.self.view_is) at c.requires.threads)
    (rw (← c.self.view_is) at c.requires.live))

pub returns-clause-ok : goal.returns-clause-ok
returns-clause-ok g c = rw (← c.self.view_is) (whole_kept _ (invariant_of-self-2 g c) c.kept.ensures ∙ rw c.in_ok-add_thread.ensures.ok refl)
