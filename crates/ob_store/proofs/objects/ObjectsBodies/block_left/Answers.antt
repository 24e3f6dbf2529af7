use Rattle.ob_store.proofs.Cited.{◌∙◌, sym, true, and_parts}
use Rattle.ob_store.proofs.AgreeLaws.{opened_closed, live_at, body_within}
use Rattle.ob_store.proofs.TiedLaws.{tied_block_ended, tied_block_left}
use Rattle.ob_store.proofs.objects.ObjectsBodies.block_left.Goals as goal

pub invariant_of-self : goal.invariant_of-self
invariant_of-self g c =
    rw c.close_slot.ensures (tied_block_ended _ _ c.args.id c.block_left.ensures.objects c.block_left.ensures.rest c.self.invariant
    (sym c.block_left.ensures.ended ∙ c.if-block_left.true))

pub invariant_of-self-else-block_left : goal.invariant_of-self-else-block_left
invariant_of-self-else-block_left g c =
    tied_block_left _ _ c.args.id c.block_left.ensures.objects c.block_left.ensures.rest c.self.invariant
    (sym c.block_left.ensures.ended ∙ c.if-block_left.false)

pub returns-then-block_left-clause-rest : goal.returns-then-block_left-clause-rest
returns-then-block_left-clause-rest g c =
    let agreed = c.self.invariant.agreed in
    let there = (and_parts _ _ (sym c.block_left.ensures.ended ∙ c.if-block_left.true)).0 in
    let keeper = opened_closed _ c.args.id.slot (live_at _ _ there agreed (body_within _ _ there agreed)) in
    rw (← c.self.view_is, c.close_slot.ensures) (λ i. record { rest = c.block_left.ensures.rest i; births = c.self.inside.births; keeper = keeper i })
