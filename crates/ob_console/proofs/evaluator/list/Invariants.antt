use Rattle.ob_console.proofs.Cited.{directory_of, Spends}
use Rattle.ob_console.proofs.Listed.{IsListed}
use Rattle.ob_console.proofs.evaluator.list.Given as goal

abbrev pub invariant-loop-name : goal.invariant-loop-name
invariant-loop-name g l = record {
  written : IsListed (directory_of l.fn.manager.state) l.name-iterator (g.W.Sink.taken l.fn.sink)
      (g.W.Sink.taken l.sink) l.fn.output.bytes l.output.bytes;
  spends : Spends g.W.Sink.calls g.W.Sink.faults l.fn.sink l.sink l.fn.output l.output;
}
