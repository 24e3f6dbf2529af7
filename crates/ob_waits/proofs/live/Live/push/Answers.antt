use Rattle.ob_waits.proofs.Cited.{List, Option, subst, sym, arith, Wait, AreTold}
use Rattle.ob_waits.proofs.AnswerLaws.{told_added}
use Rattle.ob_waits.proofs.live.Live.push.Goals as goal

pub invariant_of-self : goal.invariant_of-self
invariant_of-self c = c.make_room.ensures.told c.self.inside.waits c.self.invariant

pub invariant_of-self-in_err-push : goal.invariant_of-self-in_err-push
invariant_of-self-in_err-push c =
    search (arith, c.in_err-push.ensures.err, c.make_room.ensures.told)

pub invariant_of-self-2 : goal.invariant_of-self-2
invariant_of-self-2 c =
    subst (λ (ws : List (Option Wait)). AreTold ws c.make_room.new.self) (sym c.in_ok-push.ensures.ok)
    (told_added c.self.inside.waits c.args.wait c.make_room.new.self c.requires.pending
    c.in_ok-make_room.ensures.room (c.make_room.ensures.told c.self.inside.waits c.self.invariant))
