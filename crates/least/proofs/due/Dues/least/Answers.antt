use Rattle.least.proofs.BestLemmas.{least_at_root, padded_best}
use Rattle.least.proofs.due.Dues.least.Goals as goal

pub returns : goal.returns
returns c = rw (← c.self.view_is, c.moment_at.ensures)
    (least_at_root _ _ (padded_best c.self.inside.len _ _ c.self.invariant.0.each))
