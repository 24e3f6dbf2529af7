use Rattle.std.proofs.Common.{rules}
use Rattle.std.specs.Int.{bit_at}
use Rattle.least.specs.Bits.{bit}
use Rattle.least.proofs.CountLemmas.{none_in}
use Rattle.least.proofs.LevelLemmas.{summed_full}
use Rattle.least.proofs.levels.Levels.with_free.Goals as goal

pub invariant_of-result : goal.invariant_of-result
invariant_of-result c =
    let leaves = c.in_ok-leaves in
    let middle = c.in_ok-middle in
    record {
      at_most = search rules;
      few_leaves = search rules;
      few_middle = search rules;
      room = search rules;
      room_above = search rules;
      none_past = leaves.ensures.clear;
      leaves_summed = summed_full (bit middle.middle.items) leaves.leaves.items (search rules) (search rules)
          leaves.ensures.not_zero;
      middle_summed = summed_full (bit_at c.low_bits.result) middle.middle.items (search rules) (search rules)
          middle.ensures.not_zero;
      counted = none_in leaves.leaves.items c.args.n leaves.ensures.set;
    }
