use Rattle.ob_console.proofs.Cited.{◌≡◌, ◌+◌, ◌*◌, ◌≤◌, [], length, Spends}
use Rattle.ob_console.proofs.Reading.{IsReading}
use Rattle.ob_console.proofs.script.answer_all.Given as goal

abbrev pub invariant-loop-i : goal.invariant-loop-i
invariant-loop-i g l = record {
  reading : IsReading l.fn.console.point l.console (g.R.Source.given l.fn.reader)
      (g.R.Source.given l.reader) (g.W.Sink.taken l.fn.writer) (g.W.Sink.taken l.writer);
  block : length l.block ≡ 65536;
  written : l.console.pending.bytes ≡ [];
  lines : l.console.lines ≤ 65536 * l.i;
  reads : g.R.Source.calls l.reader ≡ g.R.Source.calls l.fn.reader + l.i;
  read_faults : g.R.Source.faults l.reader ≡ g.R.Source.faults l.fn.reader;
  spends : Spends g.W.Sink.calls g.W.Sink.faults l.fn.writer l.writer l.fn.console.pending l.console.pending;
}
