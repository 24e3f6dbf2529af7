use Rattle.ob_store.proofs.Cited.{◌∙◌, refl}
use Rattle.ob_store.proofs.KeptLaws.{kept_flags, whole_kept}
use Rattle.ob_store.proofs.store.Store.set_flags.Goals as goal

pub invariant_of-self : goal.invariant_of-self
invariant_of-self g c = rw c.set_flags.ensures
    (kept_flags _ _ _ c.args.flags c.self.invariant (rw (← c.self.view_is) at c.requires))

pub returns : goal.returns
returns g c = rw (← c.self.view_is) (whole_kept _ (invariant_of-self g c) c.kept.ensures ∙ rw c.set_flags.ensures refl)
