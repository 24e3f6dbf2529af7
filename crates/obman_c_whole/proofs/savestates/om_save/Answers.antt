use Rattle.std.proofs.Common.{◌∙◌, ℕ, List, ap, subst}
use Rattle.obman_c_base.specs.declared.owned.OwnedManager.{OwnedManager}
use Rattle.obman_c_whole.specs.Handing.{HandsOver, gives}
use Rattle.obman_c_whole.specs.Savestates.{saved_of}
use Rattle.obman_c_whole.proofs.savestates.om_save.Goals as goal

-- what was saved is the state of the owner's manager
pub returns-in-Ok-clause-saved : goal.returns-in-Ok-clause-saved
returns-in-Ok-clause-saved c =
    gives
    (subst (λ (bytes : List ℕ). HandsOver bytes c.hand_over.result c.args.bytes.now c.hand_over.new.room c.hand_over.new.length)
    (c.as_slice.ensures.value ∙ c.in-Ok.ensures.saved
    ∙ ap (λ (o : OwnedManager). saved_of o) c.lend-held.ensures.value)
    c.hand_over.ensures)
