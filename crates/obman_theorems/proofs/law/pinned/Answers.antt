use Rattle.obman_theorems.proofs.PinLaws.{held}
use Rattle.obman_theorems.proofs.law.pinned.Goals as goal

pub returns-clause-held : goal.returns-clause-held
returns-clause-held c =
    held c.args.reader.now.view c.try_pin.new.self.view c.args.id c.try_pin.result c.try_pin.ensures.pinned
    c.try_pin.ensures.hold
