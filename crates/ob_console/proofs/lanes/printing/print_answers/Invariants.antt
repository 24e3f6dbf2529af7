use Rattle.ob_script.specs.Pending.{Spends}
use Rattle.ob_console.proofs.lanes.printing.print_answers.Given as goal

abbrev pub invariant-loop-place : goal.invariant-loop-place
invariant-loop-place g l = Spends g.W.Sink.calls g.W.Sink.faults l.fn.sink l.sink l.fn.output l.output
