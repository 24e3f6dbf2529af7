use Rattle.ob_store.proofs.Cited.{◌∙◌, sym, arith}
use Rattle.ob_store.proofs.TiedLaws.{tied_handle_left}
use Rattle.ob_store.proofs.objects.Objects.last_handle_left.Goals as goal

pub invariant_of-self : goal.invariant_of-self
invariant_of-self g c =
    let some = rw (← c.self.view_is) at c.requires in
    rw (c.last_handle_left.ensures.value, c.close_slot.ensures)
    (tied_handle_left _ _ (omega (arith, some)) (sym c.last_handle_left.ensures.ended ∙ c.if-last_handle_left.true) c.self.invariant)
