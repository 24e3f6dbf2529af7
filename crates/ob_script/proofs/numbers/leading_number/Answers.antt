use Rattle.std.proofs.Common.{rules}
use Rattle.ob_script.proofs.Leading.{number_last}
use Rattle.ob_script.proofs.numbers.leading_number.Goals as goal

pub returns-then-count-text-clause-some : goal.returns-then-count-text-clause-some
returns-then-count-text-clause-some c =
    let found = c.leading_digits-value in
    number_last c.args.text.now found.result.1 found.result.0 found.ensures.digits found.ensures.value (search rules)
    (search rules) (search rules) (search rules)
