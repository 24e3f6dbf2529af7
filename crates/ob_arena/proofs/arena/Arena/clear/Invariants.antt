use Rattle.std.proofs.Common.{◌≡◌, ◌<◌, ℕ, length, get_or, None}
use Rattle.ob_arena.proofs.arena.Arena.clear.Given as goal

abbrev pub invariant-loop-slot : goal.invariant-loop-slot
invariant-loop-slot g l = record {
  slots : length l.self.bodies ≡ length l.fn.self.bodies;
  none : (k : ℕ) → k < l.slot → get_or l.self.bodies k None ≡ None;
}
