use Rattle.std.proofs.Common.{rules, arith, refl, true, ◌<◌, ◌∙◌, ◌/◌}
use Rattle.least.specs.Bits.{bit}
use Rattle.least.proofs.CountLemmas.{counted_freed, taken_within}
use Rattle.least.proofs.LevelLemmas.{sums_changed, taken_freed}
use Rattle.least.proofs.levels.Levels.give_back.Goals as goal

pub invariant_of-self : goal.invariant_of-self
invariant_of-self c =
    let i = c.self.inside in
    let n = c.args.n in
    let lt : n < i.len = taken_within _ i.len n true _ c.self.view_is c.requires in
    record {
      at_most = search rules;
      few_leaves = search rules;
      few_middle = search rules;
      room = search rules;
      room_above = search rules;
      none_past = λ k past. c.set.ensures.others k (omega arith) ∙ c.self.invariant.none_past k past;
      leaves_summed = sums_changed (bit i.middle.items) (bit i.middle.items) _ _ (n / 64)
          c.self.invariant.leaves_summed c.set.ensures.words (λ j other. refl)
          (let some = c.set.ensures.not_zero in
          let had = c.set.ensures.had c.if-not-set.true in
          let here = c.self.invariant.leaves_summed (n / 64) in omega arith);
      middle_summed = search rules;
      counted = counted_freed _ _ i.len n i.count _ c.self.view_is c.requires c.set.ensures.bit_is
          c.set.ensures.others c.self.invariant.counted;
    }

pub invariant_of-self-2 : goal.invariant_of-self-2
invariant_of-self-2 c =
    let i = c.self.inside in
    let n = c.args.n in
    let lt : n < i.len = taken_within _ i.len n true _ c.self.view_is c.requires in
    record {
      at_most = search rules;
      few_leaves = search rules;
      few_middle = search rules;
      room = search rules;
      room_above = search rules;
      none_past = λ k past. c.set.ensures.others k (omega arith) ∙ c.self.invariant.none_past k past;
      leaves_summed = sums_changed (bit i.middle.items) (bit c.raised-self-inside.new.middle.items) _ _
          (n / 64) c.self.invariant.leaves_summed c.set.ensures.words c.raised-self-inside.ensures.others
          (let some = c.set.ensures.not_zero in let here = c.raised-self-inside.ensures.bit_is in omega arith);
      middle_summed = c.raised-self-inside.ensures.above c.self.invariant.middle_summed;
      counted = counted_freed _ _ i.len n i.count _ c.self.view_is c.requires c.set.ensures.bit_is
          c.set.ensures.others c.self.invariant.counted;
    }

pub returns : goal.returns
returns c =
    let i = c.self.inside in
    let lt = taken_within _ i.len c.args.n true _ c.self.view_is c.requires in
    rw (← c.self.view_is) (search (arith, taken_freed))
