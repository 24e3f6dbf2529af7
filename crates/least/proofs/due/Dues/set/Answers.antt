use Rattle.std.proofs.Common.{◌∙◌, ◌+◌, arith, ap, set, None}
use Rattle.std.proofs.lemmas.List.{length-set}
use Rattle.least.specs.Padded.{padded}
use Rattle.least.proofs.PaddedLemmas.{padded_length, padded_set, padded_twice}
use Rattle.least.proofs.due.Dues.set.Goals as goal

pub invariant_of-self : goal.invariant_of-self
invariant_of-self c = search (arith, length-set, padded_length)

pub returns : goal.returns
returns c =
    let i = c.self.inside in
    padded_set None i.len c.reach_both.new.dues.items c.args.place c.args.due c.reach_both.ensures.there
    ∙ ap (λ xs. set (padded None i.len xs) c.args.place c.args.due) c.reach_both.ensures.value
    ∙ ap (λ xs. set xs c.args.place c.args.due)
    (padded_twice None i.len i.dues.items (c.args.place + 1) (search (arith, padded_length)) ∙ c.self.view_is)
