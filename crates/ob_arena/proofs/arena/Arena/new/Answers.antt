use Rattle.ob_arena.proofs.Cited.{arith, length-replicate}
use Rattle.ob_arena.proofs.Phasing.{tied_new}
use Rattle.ob_arena.proofs.arena.Arena.new.Goals as goal

pub invariant_of-result : goal.invariant_of-result
invariant_of-result g c = search (arith, length-replicate, tied_new)
