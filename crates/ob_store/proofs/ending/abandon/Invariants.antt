use Rattle.ob_store.proofs.Cited.{◌≡◌, ℕ, ◌<◌, false, kept_rest, KeepsEnough}
use Rattle.ob_store.specs.Ends.{abandoned_by}
use Rattle.ob_store.specs.Owners.{owns_at}
use Rattle.ob_store.proofs.ending.abandon.Given as goal

abbrev pub invariant-loop-slot : goal.invariant-loop-slot
invariant-loop-slot g l = record {
  seen : abandoned_by l.thread l.objects.seen ≡ abandoned_by l.thread l.fn.objects.seen;
  rest : kept_rest l.objects ≡ kept_rest l.fn.objects;
  enough : KeepsEnough l.fn.signaled l.fn.objects.seen.bodies l.signaled l.objects.seen.bodies;
  none : (k : ℕ) → k < l.slot → owns_at l.thread l.objects.seen.bodies k ≡ false;
}
