use Rattle.std.proofs.Common.{arith, None}
use Rattle.least.proofs.BestLemmas.{least_at_root, none_by, padded_best}
use Rattle.least.proofs.PaddedLemmas.{padded_at}
use Rattle.least.proofs.due.Dues.due_by.Goals as goal

pub returns-in_err-due-clause-none : goal.returns-in_err-due-clause-none
returns-in_err-due-clause-none c =
    let all = least_at_root _ _ (padded_best c.self.inside.len _ _ c.self.invariant.0.each) in
    search (arith, none_by)

pub returns-then-due-now-clause-none : goal.returns-then-due-now-clause-none
returns-then-due-now-clause-none c =
    let all = least_at_root _ _ (padded_best c.self.inside.len _ _ c.self.invariant.0.each) in
    rw (← c.self.view_is) (search (arith, none_by))

pub returns-clause-least : goal.returns-clause-least
returns-clause-least c = rw (
  ← c.self.view_is,
  padded_at None c.self.inside.len c.self.inside.dues.items c.place_of_least.result,
  c.place_of_least.ensures,
) (least_at_root _ _ (padded_best c.self.inside.len _ _ c.self.invariant.0.each))
