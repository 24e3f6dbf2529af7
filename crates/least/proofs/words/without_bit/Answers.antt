use Rattle.std.proofs.Common.{rules, arith, ◌≤◌, ⊎_elim, ◌*◌, ◌%◌, ◌^◌}
use Rattle.std.specs.Int.{bit_not}
use Rattle.std.proofs.lemmas.Bool.{cases_lt}
use Rattle.std.proofs.lemmas.Nat.Bits.{bit_at_clear_same, bit_at_clear_other, bit_at_above, bit_at_and}
use mir.Syntax.{w64}
use mir.Val.{bits}
use Rattle.least.proofs.words.without_bit.Goals as goal

pub returns-clause-bit_is : goal.returns-clause-bit_is
returns-clause-bit_is c = search (arith, bit_at_clear_same)

pub returns-clause-others : goal.returns-clause-others
returns-clause-others c = λ i ne. ⊎_elim
    (search (arith, bit_at_clear_other))
    (λ (past : 64 ≤ i). let none = bit_at_above c.args.word 64 i (search rules) past in
    let and = bit_at_and c.args.word (bit_not w64 (1 * 2 ^ c.args.k % 2 ^ bits w64)) i in grind arith)
    (cases_lt i 64)
