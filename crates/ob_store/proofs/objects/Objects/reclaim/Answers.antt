use Rattle.ob_store.proofs.TiedLaws.{tied_freed, tied_retired}
use Rattle.ob_store.proofs.objects.Objects.reclaim.Goals as goal

pub invariant_of-self : goal.invariant_of-self
invariant_of-self g c =
    rw (c.remove.ensures.value, c.in-Freed.ensures.kind.0)
    (tied_freed _ _ _ (rw (← c.self.view_is) at c.requires.object) (rw (← c.self.view_is) at c.requires.ended) c.in-Freed.ensures.kind.1 c.self.invariant)

pub invariant_of-self-in-Retired : goal.invariant_of-self-in-Retired
invariant_of-self-in-Retired g c =
    rw (c.retire.ensures, c.remove-in-Retired.ensures.value, c.in-Retired.ensures.kind.0)
    (tied_retired _ _ _ (rw (← c.self.view_is) at c.requires.object) (rw (← c.self.view_is) at c.requires.ended) c.in-Retired.ensures.kind.1 c.self.invariant)
