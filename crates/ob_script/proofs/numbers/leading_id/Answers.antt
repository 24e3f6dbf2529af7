use Rattle.ob_script.proofs.Cited.{rules, arith, refl}
use Rattle.ob_script.proofs.Objects.{first_object, no_generation, no_slot}
use Rattle.ob_script.proofs.numbers.leading_id.Goals as goal

pub returns-then-count-eq0-clause-none : goal.returns-then-count-eq0-clause-none
returns-then-count-eq0-clause-none c = search (arith, no_slot)

pub returns-then-count-rest-clause-none : goal.returns-then-count-rest-clause-none
returns-then-count-rest-clause-none c = search (arith, no_slot)

pub returns-in_default-leading_number-clause-none : goal.returns-in_default-leading_number-clause-none
returns-in_default-leading_number-clause-none c = search (arith, no_generation)

pub returns-clause-some : goal.returns-clause-some
returns-clause-some c =
    let found = c.leading_digits-slot.ensures in
    first_object _ _ _ c.in-115.len_at_least (search rules) refl found.digits _ _ _ found.value (search rules)
    (search rules) (search rules) (search rules) (search rules) c.in-Some.ensures.some
