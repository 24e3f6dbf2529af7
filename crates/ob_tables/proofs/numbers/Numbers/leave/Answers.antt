use Rattle.std.proofs.Common.{◌∙◌, ap, sym}
use Rattle.std.specs.Prelude.{is_some}
use Rattle.ob_tables.proofs.NumberLaws.{live_taken}
use Rattle.ob_tables.proofs.numbers.Numbers.leave.Goals as goal

pub give_back-requires : goal.give_back-requires
give_back-requires c = live_taken c.args.self.now c.requires c.args.number
    (sym (ap is_some c.get.ensures) ∙ sym c.is_some.ensures ∙ c.if-is_some.true)
