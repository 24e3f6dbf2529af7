use Rattle.std.proofs.Common.{arith, ◌<◌}
use Rattle.std.specs.Int.{bit_at}
use Rattle.least.specs.Bits.{bit}
use Rattle.least.proofs.LevelLemmas.{none_below, least_at}
use Rattle.least.proofs.levels.Levels.least.Goals as goal

pub returns-clause-value : goal.returns-clause-value
returns-clause-value c =
    let i = c.self.inside in
    let k = c.lowest_in.result in
    let lt : k < i.len = search arith in
    let below = none_below (bit i.middle.items) i.leaves.items _ k c.self.invariant.leaves_summed
    (none_below (bit_at i.top) i.middle.items _ _ c.self.invariant.middle_summed c.lowest-m.ensures.least
    c.lowest_in-w.ensures.least)
    c.lowest_in.ensures.least in
    search (arith, least_at)
