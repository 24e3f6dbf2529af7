use Rattle.ob_store.proofs.Cited.{◌≡◌, kept_rest, KeepsEnough}
use Rattle.ob_store.specs.Ends.{abandoned_by}
use Rattle.ob_store.proofs.ending.abandon_listed.Given as goal

abbrev pub invariant-loop : goal.invariant-loop
invariant-loop g l = record {
  seen : abandoned_by l.thread l.objects.seen ≡ abandoned_by l.thread l.fn.objects.seen;
  rest : kept_rest l.objects ≡ kept_rest l.fn.objects;
  enough : KeepsEnough l.fn.signaled l.fn.objects.seen.bodies l.signaled l.objects.seen.bodies;
}
