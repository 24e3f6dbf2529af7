use Rattle.std.proofs.Common.{arith}
use Rattle.ob_tables.proofs.Places.{kept_set, held_number}
use Rattle.ob_tables.proofs.table.Table.remove.Goals as goal

pub give_back-requires : goal.give_back-requires
give_back-requires c = search (arith, held_number)

pub invariant_of-self : goal.invariant_of-self
invariant_of-self c = search (arith, kept_set)
