use Rattle.std.proofs.Common.{arith}
use Rattle.ob_tables.proofs.NewTables.{bounded_push, bounded_set}
use Rattle.ob_tables.proofs.tables.Tables.add_table.Goals as goal

pub invariant_of-self : goal.invariant_of-self
invariant_of-self c = search (arith, bounded_set, c.in_ok-table.ensures)

pub invariant_of-self-in-Continue-branch-2 : goal.invariant_of-self-in-Continue-branch-2
invariant_of-self-in-Continue-branch-2 c = let s = c.self.inside in
    rw c.in_ok-push.ensures.items
    (bounded_push s.processes s.handles s.tables.items c.in_ok-table.table c.args.parent c.in_ok-table.ensures
    c.self.invariant (grind (arith)))
