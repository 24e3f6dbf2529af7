use Rattle.std.proofs.Common.{arith, ◌<◌, length}
use Rattle.ob_tables.proofs.LimitLaws.{few_at}
use Rattle.ob_tables.proofs.tables.Tables.left.Goals as goal

pub overflow_sub-result : goal.overflow_sub-result
overflow_sub-result c =
    let i = c.self.inside in
    let lt : c.args.process < length i.tables.items = search arith in
    rw c.count.ensures (search (arith, few_at))
