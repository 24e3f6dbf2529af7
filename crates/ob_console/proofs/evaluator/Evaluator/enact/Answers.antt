use Rattle.ob_console.proofs.Cited.{arith, directory_of, printed, printed_names, put_written}
use Rattle.ob_console.proofs.evaluator.Evaluator.enact.Goals as goal

pub returns-in-Ask-clause-prints : goal.returns-in-Ask-clause-prints
returns-in-Ask-clause-prints g c = rw (← c.self.view_is) (printed c.reply_to.result, search arith, search (arith, put_written))

pub returns-in-ListNames-clause-prints : goal.returns-in-ListNames-clause-prints
returns-in-ListNames-clause-prints g c =
    let names = printed_names (directory_of c.self-in-ListNames.inside.manager.state) in
    rw (← c.self-in-ListNames.view_is) (names, search arith, c.list.ensures.written)
