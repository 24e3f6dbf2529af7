use Rattle.ob_waits.proofs.Cited.{◌<◌, arith, length, subst, sym, AreTold}
use Rattle.ob_waits.proofs.TrackedLaws.{has_wait}
use Rattle.ob_waits.proofs.answered_numbers.AnsweredNumbers.out_of_order_above.Goals as goal

pub overflow_cast-result : goal.overflow_cast-result
overflow_cast-result c =
    let told = subst (AreTold c.args.waits.now) (sym c.self.view_is) c.requires in
    let at = c.in_ok-number.ensures.stands in
    let lt : c.in_ok-number.number < length c.args.waits.now =
    has_wait c.args.waits.now c.in_ok-number.number at.0 (told.out_of_order at.0 c.in_ok-number.number at.1).0 in
    let given = c.given-given.ensures in
    let range = c.given-given.type_inv in
    omega arith

pub returns-clause-answered : goal.returns-clause-answered
returns-clause-answered c =
    let told = subst (AreTold c.args.waits.now) (sym c.self.view_is) c.requires in
    let at = c.in_ok-number.ensures.stands in
    (told.out_of_order at.0 c.in_ok-number.number at.1).1
