use Rattle.ob_waits.proofs.Cited.{◌≡◌, ◌≢◌, None, Some, List, Option, ℕ, get_or, rules, set, subst, sym, arith, AnsweredNumbers, AreTold}
use Rattle.ob_waits.proofs.AnswerLaws.{told_cleared, told_gone}
use Rattle.ob_waits.proofs.answered_numbers.AnsweredNumbers.forget.Goals as goal

pub returns-then-eq : goal.returns-then-eq
returns-then-eq c = λ waits own told.
    let u : AnsweredNumbers = record { queue = c.self.inside.queue; out_of_order = c.self.inside.out_of_order } in
    let at : get_or u.out_of_order c.args.thread None ≡ Some c.args.number = search rules in
    subst (λ (l : List (Option ℕ)). AreTold (set waits c.args.number None) (record {
      queue = c.self.inside.queue;
      out_of_order = l;
    })) (sym c.clear.ensures)
    (told_cleared waits c.args.number c.args.thread own u at (search arith))

pub returns-else-eq : goal.returns-else-eq
returns-else-eq c = λ waits own told.
    let free : get_or c.self.inside.out_of_order c.args.thread None ≢ Some c.args.number = λ same. search rules in
    subst (AreTold (set waits c.args.number None)) c.self.view_is
    (search (arith, told_gone, c.self.view_is))
