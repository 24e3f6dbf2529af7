use Rattle.ob_store.proofs.OpeningLaws.{kept_opening, opening_is}
use Rattle.ob_store.proofs.store.Store.new.Goals as goal

pub invariant_of-result : goal.invariant_of-result
invariant_of-result g c =
    rw (c.in-Ok.ensures, c.in-Ok-new.ensures.ok, c.in-Ok-new-2.ensures, c.in-Ok-new-3.ensures.ok)
    (rw (c.new-in-Ok-new-3.ensures, c.last_wait.ensures, c.new-in-Ok-new-3-2.ensures) (kept_opening _ _ c.requires))

pub returns-in-Ok-new-3-clause-ok : goal.returns-in-Ok-new-3-clause-ok
returns-in-Ok-new-3-clause-ok g c =
    rw (c.in-Ok.ensures, c.in-Ok-new.ensures.ok, c.in-Ok-new-3.ensures.ok, c.new-in-Ok-new-3.ensures) (opening_is _ _ c.requires)
