use Rattle.std.proofs.Common.{arith}
use Rattle.pin_words.proofs.locked.LockedPins.holds.Goals as goal

pub returns : goal.returns
returns c = search arith
