use Rattle.std.proofs.Common.{arith}
use Rattle.pin_core.proofs.world.World.enact.Goals as goal

pub returns-in-Release-clause-ok : goal.returns-in-Release-clause-ok
returns-in-Release-clause-ok c = search (arith, c.in-Release.is)
