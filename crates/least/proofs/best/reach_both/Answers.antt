use Rattle.std.proofs.Common.{◌+◌, arith}
use Rattle.least.proofs.BestLemmas.{whole_padded}
use Rattle.least.proofs.best.reach_both.Goals as goal

pub returns-then-len-place-clause-whole : goal.returns-then-len-place-clause-whole
returns-then-len-place-clause-whole c = rw (c.reach.ensures.value, c.reach-then-len-place.ensures.value)
    (whole_padded (c.args.place + 1) _ _ (omega arith) c.requires.whole)
