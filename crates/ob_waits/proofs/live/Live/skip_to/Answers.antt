use Rattle.ob_waits.proofs.Cited.{List, Option, subst, sym, Wait, AreTold}
use Rattle.ob_waits.proofs.SkipLaws.{told_skipped}
use Rattle.ob_waits.proofs.live.Live.skip_to.Goals as goal

pub invariant_of-self : goal.invariant_of-self
invariant_of-self c = subst (λ (ws : List (Option Wait)). AreTold ws c.self.inside.answered_numbers) (sym c.skip_to.ensures)
    (told_skipped c.args.last c.self.inside.waits c.self.inside.answered_numbers c.self.invariant)
