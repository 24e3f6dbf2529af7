use Rattle.ob_waits.proofs.Cited.{refl, subst, sym, AreTold}
use Rattle.ob_waits.proofs.AnswerLaws.{told_dropped}
use Rattle.ob_waits.proofs.answered_numbers.AnsweredNumbers.drop_first.Goals as goal

pub returns : goal.returns
returns c = λ told. told_dropped c.args.waits.now (record { queue = c.self.inside.queue; out_of_order = c.self.inside.out_of_order })
    (record { queue = c.leave.new.self; out_of_order = c.self.inside.out_of_order }) c.leave.ensures refl
    (subst (AreTold c.args.waits.now) (sym c.self.view_is) told)
