use Rattle.ob_console.proofs.Cited.{arith, ◌++◌, line_end, printed_unpin, put_written}
use Rattle.ob_console.proofs.evaluator.Evaluator.unpin.Goals as goal

pub returns-clause-prints : goal.returns-clause-prints
returns-clause-prints g c =
    rw (← c.self.view_is) (printed_unpin c.args.id c.unpin-done.result ++ line_end, search arith, search (arith, put_written))
