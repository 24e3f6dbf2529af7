use Rattle.pin_words.proofs.Cited.{◌≡◌, arith, tally, tally-count, is_of_slot}
use Rattle.pin_words.proofs.locked.LockedPins.pins.Goals as goal

pub prove-unreachable-requires : goal.prove-unreachable-requires
prove-unreachable-requires c = let e : c.pins_at-pins.result ≡ tally (is_of_slot c.args.slot) c.self.inside.held.items =
    search (arith, tally-count) in
    let room = c.self.inside.room c.args.slot in let over = c.if-prove.true in omega arith

pub returns-clause-count : goal.returns-clause-count
returns-clause-count c = search (arith, tally-count, is_of_slot, tally)
