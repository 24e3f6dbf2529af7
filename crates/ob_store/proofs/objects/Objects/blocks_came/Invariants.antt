use Rattle.ob_store.proofs.Cited.{◌≡◌, ℕ, ◌+◌, ◌≤◌, drop, get_or, with_blocks_of}
use Rattle.ob_store.proofs.objects.Objects.blocks_came.Given as goal

abbrev pub invariant-loop-id : goal.invariant-loop-id
invariant-loop-id g l = record {
  left : with_blocks_of l.self (drop l.id-index l.ids) ≡ with_blocks_of l.fn.self l.ids;
  bodies : l.self.seen.bodies ≡ l.fn.self.seen.bodies;
  at_most : (k : ℕ) → get_or l.self.seen.blocks k 0 ≤ get_or l.fn.self.seen.blocks k 0 + l.id-index;
}
