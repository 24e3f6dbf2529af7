use Rattle.ob_store.proofs.Cited.{◌≡◌, count_by, kept_rest, KeepsEnough, slot_is_due}
use Rattle.ob_store.specs.Ticks.{timers_fired}
use Rattle.ob_store.proofs.ticking.fire_all.Given as goal

abbrev pub invariant-loop-slot : goal.invariant-loop-slot
invariant-loop-slot g l = record {
  seen : timers_fired l.now l.objects.seen ≡ timers_fired l.now l.fn.objects.seen;
  rest : kept_rest l.objects ≡ kept_rest l.fn.objects;
  enough : KeepsEnough l.fn.signaled l.fn.objects.seen.bodies l.signaled l.objects.seen.bodies;
}

abbrev pub decreases-loop-slot : goal.decreases-loop-slot
decreases-loop-slot g l = count_by (slot_is_due l.now) l.objects.seen.bodies
