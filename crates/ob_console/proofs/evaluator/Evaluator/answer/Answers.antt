use Rattle.ob_console.proofs.Cited.{◌+◌, arith, command_of, point, Evaluation}
use Rattle.ob_console.proofs.Waited.{enacts_whole}
use Rattle.ob_console.proofs.evaluator.Evaluator.answer.Goals as goal

pub returns-clause-prints : goal.returns-clause-prints
returns-clause-prints g c =
    let i = c.self.inside in
    let p = point i.more i.manager i.reader.view in
    let old : Evaluation = record { point = p; pending = i.output; lines = i.lines } in
    rw (← c.self.view_is) (enacts_whole old (i.lines + 1) (command_of i.more c.args.line.now) c.enact.result _ _
    c.enact.new.self (search arith))
