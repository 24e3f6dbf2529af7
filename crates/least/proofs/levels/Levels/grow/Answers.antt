use Rattle.std.proofs.Common.{arith, rules, refl, ◌≡◌, ◌<◌, ◌∙◌, ap, ℕ, ◌+◌, List, length, [], ◌∷◌, ◌++◌, length-append}
use Rattle.least.specs.Bits.{bit}
use Rattle.least.proofs.CountLemmas.{counted_more}
use Rattle.least.proofs.LevelLemmas.{pushed_bit, pushed_none}
use Rattle.least.proofs.levels.Levels.grow.Goals as goal

pub invariant_of-self : goal.invariant_of-self
invariant_of-self c =
    let i = c.self.inside in
    let short : i.len < 65536 = omega arith in
    record {
      at_most = omega arith;
      few_leaves = search rules;
      few_middle = search rules;
      room = omega arith;
      room_above = search rules;
      none_past = λ k past. c.self.invariant.none_past k (omega arith);
      leaves_summed = search rules;
      middle_summed = search rules;
      counted = counted_more _ _ i.len i.count (λ k. refl) (c.self.invariant.none_past i.len (omega arith))
          c.self.invariant.counted;
    }

pub invariant_of-self-2 : goal.invariant_of-self-2
invariant_of-self-2 c =
    let i = c.self.inside in
    let lower = c.add_word.new.lower.items in
    let ok : lower ≡ i.leaves.items ++ 0 ∷ [] = c.in_ok-add_word.ensures.ok in
    let grown : length lower ≡ length i.leaves.items + 1 =
    omega (arith, ap length ok, length-append i.leaves.items (0 ∷ [])) in
    let short : i.len < 65536 = omega arith in
    record {
      at_most = omega arith;
      few_leaves = search (arith, pushed_none);
      few_middle = search (arith, pushed_none);
      room = search (arith, pushed_none);
      room_above = search (arith, pushed_none);
      none_past = search (arith, pushed_none);
      leaves_summed = search (arith, pushed_none);
      middle_summed = search (arith, pushed_none);
      counted = counted_more i.leaves.items lower i.len i.count
          (λ k. ap (λ (words : List ℕ). bit words k) ok ∙ pushed_bit i.leaves.items k)
          (c.self.invariant.none_past i.len (omega arith)) c.self.invariant.counted;
    }
