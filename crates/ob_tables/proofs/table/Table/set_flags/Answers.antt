use Rattle.std.proofs.Common.{arith}
use Rattle.ob_tables.proofs.Places.{kept_changed, present}
use Rattle.ob_tables.proofs.table.Table.set_flags.Goals as goal

pub invariant_of-self : goal.invariant_of-self
invariant_of-self c = search (arith, kept_changed, present, c.place_of-place.ensures, c.self.view_is)
