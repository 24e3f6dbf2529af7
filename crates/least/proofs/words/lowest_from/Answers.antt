use Rattle.std.proofs.lemmas.Bool.Decides.{nat_tests}
use Rattle.std.proofs.Common.{arith, ◌∙◌, ap, ◌-◌, ◌+◌, ℕ, Bool}
use Rattle.std.specs.Prelude.{◌==◌}
use Rattle.std.specs.Int.{bit_at}
use Rattle.std.proofs.lemmas.Bool.{eq-eqb}
use Rattle.std.proofs.lemmas.Nat.Bits.{bit_at_above, bit_at-zero}
use Rattle.least.proofs.NextLemmas.{bit_at_from, bit_at_shifted, first_found, none_found}
use Rattle.least.proofs.words.lowest_from.Goals as goal

pub returns-then-k-ge64-clause-least : goal.returns-then-k-ge64-clause-least
returns-then-k-ge64-clause-least c = grind (arith, nat_tests, none_found, bit_at_above c.args.word 64)

pub returns-then-rest-eq0-clause-least : goal.returns-then-rest-eq0-clause-least
returns-then-rest-eq0-clause-least c = none_found (λ i. bit_at c.args.word i == 1) c.args.k
    (λ i le. ap {B = Bool} (λ (x : ℕ). x == 1) (bit_at_from c.args.word c.args.k i le
    ∙ ap (λ (x : ℕ). bit_at x (i - c.args.k)) c.if-rest-eq0.true ∙ bit_at-zero (i - c.args.k)))

pub returns-clause-least : goal.returns-clause-least
returns-clause-least c =
    let k = c.args.k in
    let r = c.lowest.result in
    first_found (λ i. bit_at c.args.word i == 1) k (k + r) (omega arith)
    (eq-eqb (bit_at c.args.word (k + r)) 1 (let e = bit_at_shifted c.args.word k r in let f = c.lowest.ensures.set in
    omega arith))
    (λ i le lt. ap {B = Bool} (λ (x : ℕ). x == 1) (bit_at_from c.args.word k i le
    ∙ c.lowest.ensures.least (i - k) (omega arith)))

pub returns-clause-within : goal.returns-clause-within
returns-clause-within c = grind (arith, nat_tests, bit_at_shifted, bit_at_above c.args.word 64)
