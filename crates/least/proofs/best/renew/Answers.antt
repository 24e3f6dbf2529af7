use Rattle.std.proofs.Common.{◌∙◌, sym, arith, None}
use Rattle.std.proofs.lemmas.List.{get_or_default}
use Rattle.least.proofs.BestLemmas.{written, unwritten}
use Rattle.least.proofs.best.renew.Goals as goal

pub returns-then-is_same-clause-done : goal.returns-then-is_same-clause-done
returns-then-is_same-clause-done c _ = unwritten c.args.dues.now.items c.args.best.now.items c.args.place
    (get_or_default c.args.best.now.items c.args.place None c.index.result.now c.requires.within ∙ sym c.index.ensures
    ∙ c.is_same.ensures.yes c.if-is_same.true ∙ c.best_below-due.ensures)
    c.requires.others

pub returns-clause-more : goal.returns-clause-more
returns-clause-more c some = (
  grind arith,
  λ n ne. written c.args.dues.now.items c.args.best.now.items c.args.place c.best_below-due.result c.requires.within
      c.best_below-due.ensures c.requires.others n (λ _. ne),
)
