use Rattle.ob_waits.proofs.Cited.{Some, ap, subst, sym, arith, at_place, AreToldBut, thread_of}
use Rattle.ob_waits.proofs.answered_numbers.AnsweredNumbers.come_out_of_order.Goals as goal

pub set-requires : goal.set-requires
set-requires c =
    let told = subst (AreToldBut (Some c.args.number) c.args.waits.now) (sym c.self.view_is) c.requires.told in
    told.placed c.in-Some.wait.now.thread c.args.number (ap thread_of (sym c.in-Some.ensures))

pub returns : goal.returns
returns c =
    grind (arith, at_place)
