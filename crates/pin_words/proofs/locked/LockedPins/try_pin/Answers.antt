use Rattle.std.proofs.Common.{arith}
use Rattle.pin_words.proofs.Holdings.{got-held}
use Rattle.pin_words.proofs.locked.LockedPins.try_pin.Goals as goal

pub returns-in-Go-clause-held : goal.returns-in-Go-clause-held
returns-in-Go-clause-held c = search (arith, got-held)
