use Rattle.std.proofs.Common.{None, sym, arith}
use Rattle.least.proofs.PaddedLemmas.{padded_past}
use Rattle.least.proofs.due.Dues.clear.Goals as goal

pub returns-else-place-len : goal.returns-else-place-len
returns-else-place-len c =
    rw (← c.self.view_is) (sym (padded_past None c.self.inside.len _ c.args.place (search arith)))
