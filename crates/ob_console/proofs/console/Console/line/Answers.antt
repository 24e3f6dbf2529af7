use Rattle.ob_console.proofs.Cited.{arith, command_of}
use Rattle.ob_script.specs.PartialLines.{command_of_partial_line}
use Rattle.ob_console.proofs.Advancing.{line_advances}
use Rattle.ob_script.proofs.Texts.{command_of_capped}
use Rattle.ob_console.proofs.console.Console.line.Goals as goal

pub returns-then-is_empty-clause-advances : goal.returns-then-is_empty-clause-advances
returns-then-is_empty-clause-advances g c =
    let empty = c.is_empty.ensures.0 c.if-is_empty.true in
    let prints = c.answer.ensures.prints in
    rw (← c.self.view_is) (
      prints.0,
      line_advances _ _ (command_of c.self.inside.evaluator.point.more c.args.end.now) c.args.end.now prints.0
          c.requires.within (search (arith, command_of_capped)) prints.1 c.answer.ensures.lines empty,
      prints.2,
    )

pub returns-clause-advances : goal.returns-clause-advances
returns-clause-advances g c =
    let prints = c.answer_held-answered.ensures.prints in
    rw (← c.self.view_is) (
      prints.0,
      line_advances _ _ (command_of_partial_line c.self.inside.evaluator.point.more c.extend.new.self) c.args.end.now
          prints.0 c.requires.within (search arith) prints.1 c.answer_held-answered.ensures.lines c.clear.ensures,
      prints.2,
    )
