use Rattle.std.proofs.Common.{below_more, arith}
use Rattle.ob_waits.proofs.take.place_of.Goals as goal

pub loop-i-preserved : goal.loop-i-preserved
loop-i-preserved c = below_more _ _ c.loop-i.invariant (search arith)
