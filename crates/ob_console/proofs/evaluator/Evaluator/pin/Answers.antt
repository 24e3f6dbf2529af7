use Rattle.ob_console.proofs.Cited.{arith, ◌++◌, line_end, printed_pin, put_written}
use Rattle.ob_console.proofs.evaluator.Evaluator.pin.Goals as goal

pub returns-clause-prints : goal.returns-clause-prints
returns-clause-prints g c =
    rw (← c.self.view_is) (printed_pin c.args.id c.pin-answer.result ++ line_end, search arith, search (arith, put_written))
