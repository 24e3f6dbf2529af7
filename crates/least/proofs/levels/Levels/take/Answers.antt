use Rattle.std.proofs.Common.{rules, arith, refl, ◌<◌, ◌∙◌, ◌/◌}
use Rattle.least.specs.Bits.{bit}
use Rattle.least.proofs.CountLemmas.{counted_cleared}
use Rattle.least.proofs.LevelLemmas.{free_bit, leads_back, sums_changed}
use Rattle.least.proofs.levels.Levels.take.Goals as goal

pub invariant_of-self : goal.invariant_of-self
invariant_of-self c =
    let i = c.self.inside in
    let n = c.args.n in
    let free = free_bit _ _ _ _ c.self.view_is c.requires in
    let lt : n < i.len = free.0 in
    record {
      at_most = search rules;
      few_leaves = search rules;
      few_middle = search rules;
      room = search rules;
      room_above = search rules;
      none_past = λ k past. c.clear.ensures.others k (omega arith) ∙ c.self.invariant.none_past k past;
      leaves_summed = sums_changed (bit i.middle.items) (bit i.middle.items) _ _ (n / 64)
          c.self.invariant.leaves_summed c.clear.ensures.words (λ j other. refl)
          (let some = c.clear.ensures.not_zero c.if-not-clear.true in
          let here = leads_back (bit i.middle.items) i.leaves.items n c.self.invariant.leaves_summed free.1 in
          omega arith);
      middle_summed = search rules;
      counted = counted_cleared _ _ i.len n i.count _ c.self.view_is c.requires c.clear.ensures.bit_is
          c.clear.ensures.others c.self.invariant.counted;
    }

pub invariant_of-self-2 : goal.invariant_of-self-2
invariant_of-self-2 c =
    let i = c.self.inside in
    let n = c.args.n in
    let free = free_bit _ _ _ _ c.self.view_is c.requires in
    let lt : n < i.len = free.0 in
    record {
      at_most = search rules;
      few_leaves = search rules;
      few_middle = search rules;
      room = search rules;
      room_above = search rules;
      none_past = λ k past. c.clear.ensures.others k (omega arith) ∙ c.self.invariant.none_past k past;
      leaves_summed = sums_changed (bit i.middle.items) (bit c.lowered-self-inside.new.middle.items) _ _
          (n / 64) c.self.invariant.leaves_summed c.clear.ensures.words c.lowered-self-inside.ensures.others
          (let none = c.clear.ensures.empty c.if-not-clear.false in
          let here = c.lowered-self-inside.ensures.bit_is in omega arith);
      middle_summed = c.lowered-self-inside.ensures.above c.self.invariant.middle_summed;
      counted = counted_cleared _ _ i.len n i.count _ c.self.view_is c.requires c.clear.ensures.bit_is
          c.clear.ensures.others c.self.invariant.counted;
    }
