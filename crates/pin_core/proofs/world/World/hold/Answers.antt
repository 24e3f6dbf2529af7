use Rattle.std.proofs.Common.{arith}
use Rattle.pin_core.proofs.Moves.{copies-le-pins}
use Rattle.pin_core.proofs.world.World.hold.Goals as goal

pub prove-unreachable-requires : goal.prove-unreachable-requires
prove-unreachable-requires c = search (arith, copies-le-pins)
