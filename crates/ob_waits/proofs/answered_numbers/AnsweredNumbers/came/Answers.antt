use Rattle.ob_waits.proofs.Cited.{Some, subst, sym, arith, AreToldBut}
use Rattle.ob_waits.proofs.AnswerLaws.{told_fresh}
use Rattle.ob_waits.proofs.answered_numbers.AnsweredNumbers.came.Goals as goal

pub returns-then-enter : goal.returns-then-enter
returns-then-enter c =
    let told = subst (AreToldBut (Some c.args.number) c.args.waits.now) (sym c.self.view_is) c.requires.told in
    search (arith, told_fresh, c.if-enter.ensures.rising, c.if-enter.ensures.value)
