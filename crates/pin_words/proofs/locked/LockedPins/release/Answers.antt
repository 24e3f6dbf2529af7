use Rattle.std.proofs.Common.{rules}
use Rattle.pin_words.proofs.Calls.{inside-less}
use Rattle.pin_words.proofs.Locking.{room-less}
use Rattle.pin_words.proofs.locked.LockedPins.release.Goals as goal

pub invariant_of-self-inside : goal.invariant_of-self-inside
invariant_of-self-inside c = let i = c.self.inside in
    let room = room-less i.shape.max_pins i.held.items c.args.id i.room in
    let less = inside-less i.shape.slots c.args.id i.held.items i.inside in search rules
