use Rattle.ob_store.proofs.Cited.{◌≡◌, ℕ, ◌+◌, ◌≤◌, drop, get_or, with_handles_of}
use Rattle.ob_store.proofs.objects.Objects.handles_came.Given as goal

abbrev pub invariant-loop-place : goal.invariant-loop-place
invariant-loop-place g l = record {
  left : with_handles_of l.self (drop l.place-index l.places) ≡ with_handles_of l.fn.self l.places;
  bodies : l.self.seen.bodies ≡ l.fn.self.seen.bodies;
  at_most : (k : ℕ) → get_or l.self.seen.handles k 0 ≤ get_or l.fn.self.seen.handles k 0 + l.place-index;
}
