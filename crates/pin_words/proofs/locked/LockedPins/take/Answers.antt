use Rattle.pin_words.proofs.Cited.{rules, arith}
use Rattle.pin_words.proofs.Calls.{inside-more}
use Rattle.pin_words.proofs.Locking.{room-more}
use Rattle.pin_words.proofs.locked.LockedPins.take.Goals as goal

pub invariant_of-self-inside : goal.invariant_of-self-inside
invariant_of-self-inside c = let i = c.self.inside in
    let few = rw (← c.self.view_is) at c.requires.at_most in
    let slot = rw (← c.self.view_is) at c.requires.slot in
    let room = room-more i.shape.max_pins i.held.items c.args.id i.room (λ e. omega arith) in
    let more = inside-more i.shape.slots c.args.id i.held.items (omega arith) i.inside in search rules
