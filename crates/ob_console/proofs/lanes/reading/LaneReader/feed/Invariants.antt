use Rattle.ob_console.proofs.Cited.{◌≡◌, ◌+◌, ◌≤◌, length, Spends}
use Rattle.ob_console.proofs.lanes.reading.LaneReader.feed.Given as goal

abbrev pub invariant-loop-end : goal.invariant-loop-end
invariant-loop-end g l = record {
  lanes : l.self.intake.scripts.lanes ≡ l.fn.self.intake.scripts.lanes;
  lines : l.self.intake.lines + length l.rest ≤ l.fn.self.intake.lines + length l.block;
  spends : Spends g.W.Sink.calls g.W.Sink.faults l.fn.sink l.sink l.fn.self.intake.output l.self.intake.output;
}

abbrev pub decreases-loop-end : goal.decreases-loop-end
decreases-loop-end g l = length l.rest
