use Rattle.ob_script.specs.Pending.{Spends}
use Rattle.ob_console.proofs.lanes.printing.print_members.Given as goal

abbrev pub invariant-loop-member : goal.invariant-loop-member
invariant-loop-member g l = Spends g.W.Sink.calls g.W.Sink.faults l.fn.sink l.sink l.fn.output l.output
