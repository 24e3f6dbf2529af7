use Rattle.ob_console.proofs.Cited.{[], arith, append-nil}
use Rattle.ob_console.proofs.Advancing.{finishes_empty, finishes_line}
use Rattle.ob_console.proofs.console.Console.last_line.Goals as goal

pub returns-then-is_empty-clause-finishes : goal.returns-then-is_empty-clause-finishes
returns-then-is_empty-clause-finishes g c =
    rw (← c.self.view_is) ([], search (arith, finishes_empty), search (arith, append-nil))

pub returns-clause-finishes : goal.returns-clause-finishes
returns-clause-finishes g c =
    let prints = c.answer_held.ensures.prints in
    rw (← c.self.view_is) (
      prints.0,
      finishes_line _ c.answer_held.new.self.point prints.0 (λ empty. cc (c.is_empty.ensures.1 empty)) prints.1,
      prints.2,
    )
