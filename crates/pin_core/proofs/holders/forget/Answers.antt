use Rattle.std.proofs.Common.{arith}
use Rattle.pin_core.proofs.Counts.{none-found, drop-absent}
use Rattle.pin_core.proofs.holders.forget.Goals as goal

pub returns-in_default : goal.returns-in_default
returns-in_default c = search (arith, drop-absent, none-found)
