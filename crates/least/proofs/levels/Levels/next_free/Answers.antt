use Rattle.std.proofs.Common.{◌≡◌, sym, ℕ, List, Bool, Option, subst, arith}
use Rattle.std.specs.Prelude.{◌==◌}
use Rattle.least.specs.Bits.{bit}
use Rattle.least.specs.From.{IsLeastFrom}
use Rattle.least.specs.Levels.{IsSummedUp, taken_in}
use Rattle.least.specs.Taken.{is_free_within}
use Rattle.least.proofs.NextLemmas.{free_test, in_next_word, in_no_word, in_word}
use Rattle.least.proofs.levels.Levels.next_free.Goals as goal

shown : (top : ℕ) (middle leaves : List ℕ) (n count from : ℕ) (now : List Bool) (r : Option ℕ)
    → IsSummedUp top middle leaves n count → taken_in leaves n ≡ now → IsLeastFrom from (λ k. bit leaves k == 1) r
    → IsLeastFrom from (is_free_within now) r
shown top middle leaves n count from now r sums is least = grind (arith, free_test)

pub returns-in-Some : goal.returns-in-Some
returns-in-Some c =
    search (arith, shown, in_word, c.in-Some.ensures.above, c.in-Some.ensures.least, c.in-Some.ensures.set, c.in-Some.ensures.within, c.self.invariant, c.self.view_is)

pub returns-in_err-w : goal.returns-in_err-w
returns-in_err-w c =
    let i = c.self.inside in
    subst (λ (r : Option ℕ). IsLeastFrom c.args.from (is_free_within c.args.self.now) r) (sym c.from_residual.ensures)
    (search (arith, shown, in_no_word, c.in_default.ensures.least, c.in_err-w.ensures, c.self.invariant, c.self.invariant.leaves_summed, c.self.view_is))

pub returns : goal.returns
returns c =
    search (arith, shown, in_next_word, c.in_default.ensures.least, c.in_ok-w.ensures, c.lowest_in.ensures.least, c.lowest_in.ensures.set, c.lowest_in.ensures.within, c.self.invariant, c.self.invariant.leaves_summed, c.self.view_is)
