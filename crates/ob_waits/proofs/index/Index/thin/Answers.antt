use Rattle.std.proofs.Common.{rules}
use Rattle.ob_waits.proofs.IndexLaws.{thins_there}
use Rattle.ob_waits.proofs.index.Index.thin.Goals as goal

pub returns-then-at-len : goal.returns-then-at-len
returns-then-at-len c = thins_there c.args.slot c.self.view_is c.index_mut-numbers.ensures.value c.thin.ensures
    (search rules)
