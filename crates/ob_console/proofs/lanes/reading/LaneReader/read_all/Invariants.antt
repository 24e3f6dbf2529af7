use Rattle.ob_console.proofs.Cited.{◌≡◌, ◌+◌, ◌*◌, ◌≤◌, length, Spends}
use Rattle.ob_console.proofs.lanes.reading.LaneReader.read_all.Given as goal

abbrev pub invariant-loop-i : goal.invariant-loop-i
invariant-loop-i g l = record {
  lanes : l.self.intake.scripts.lanes ≡ l.fn.self.intake.scripts.lanes;
  block : length l.block ≡ 65536;
  lines : l.self.intake.lines ≤ 65536 * l.i;
  reads : g.R.Source.calls l.reader ≡ g.R.Source.calls l.fn.reader + l.i;
  read_faults : g.R.Source.faults l.reader ≡ g.R.Source.faults l.fn.reader;
  spends : Spends g.W.Sink.calls g.W.Sink.faults l.fn.writer l.writer l.fn.self.intake.output l.self.intake.output;
}
