use Rattle.ob_console.proofs.Cited.{◌+◌, ◌≤◌, length, Spends, IsFed}
use Rattle.ob_console.proofs.console.Console.feed.Given as goal

abbrev pub invariant-loop-end : goal.invariant-loop-end
invariant-loop-end g l = record {
  fed : IsFed l.fn.self l.self l.block l.rest (g.W.Sink.taken l.fn.sink) (g.W.Sink.taken l.sink);
  lines : l.self.lines + length l.rest ≤ l.fn.self.lines + length l.block;
  spends : Spends g.W.Sink.calls g.W.Sink.faults l.fn.sink l.sink l.fn.self.pending l.self.pending;
}

abbrev pub decreases-loop-end : goal.decreases-loop-end
decreases-loop-end g l = length l.rest
