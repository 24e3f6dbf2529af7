use Rattle.ob_store.proofs.Cited.{◌≡◌, ◌∙◌, None, false, get_or, subst, ObjectsState, slot_is_due}
use Rattle.ob_store.specs.Ticks.{slot_fired}
use Rattle.ob_store.proofs.EnoughLaws.{enough_added}
use Rattle.ob_store.proofs.OneByOne.{all_done, one_before}
use Rattle.ob_store.proofs.TickLaws.{fired_other, fired_twice}
use Rattle.ob_store.proofs.ticking.fire_all.Goals as goal

pub loop-slot-preserved : goal.loop-slot-preserved
loop-slot-preserved g c = record {
  seen = one_before _ (fired_twice c.args.now) _ _ _ c.fire_at.ensures.seen ∙ c.loop-slot.invariant.seen;
  rest = c.fire_at.ensures.rest ∙ c.loop-slot.invariant.rest;
  enough = λ ws enough. enough_added _ _ _ _ _ _ c.fire_at.ensures.seen c.add.ensures.added c.add.ensures.before ws (c.loop-slot.invariant.enough ws enough);
}

pub returns-clause-seen : goal.returns-clause-seen
returns-clause-seen g c = all_done (slot_fired c.args.now) c.args.objects.now.seen c.loop-slot.objects.seen
    (λ k. fired_other c.args.now (get_or c.loop-slot.objects.seen.bodies k None)
    (subst (λ (o : ObjectsState). slot_is_due c.args.now (get_or o.seen.bodies k None) ≡ false) c.objects.view_is
    (c.in_default.ensures.none k)))
    c.loop-slot.invariant.seen
