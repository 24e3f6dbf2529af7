use Rattle.std.proofs.Common.{arith}
use Rattle.ob_waits.specs.Listed.{listed}
use Rattle.ob_waits.proofs.numbered.Numbered.new.Goals as goal

pub returns : goal.returns
unfolding listed
returns c = search arith
