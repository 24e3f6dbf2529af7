use Rattle.std.proofs.Common.{arith}
use Rattle.ob_arena.proofs.Phasing.{all_none}
use Rattle.ob_arena.proofs.arena.Arena.clear.Goals as goal

pub returns : goal.returns
returns g c = all_none _ _ c.loop-slot.invariant.slots (λ k lt. c.loop-slot.invariant.none k (omega arith))
