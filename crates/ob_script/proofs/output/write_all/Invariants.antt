use Rattle.ob_script.proofs.Cited.{◌≡◌, ◌+◌, Writes}
use Rattle.ob_script.proofs.output.write_all.Given as goal

abbrev pub invariant-loop-rest : goal.invariant-loop-rest
invariant-loop-rest g l = record {
  taken : Writes (g.W.Sink.taken l.fn.sink) (g.W.Sink.taken l.sink) l.bytes l.rest;
  calls : g.W.Sink.calls l.sink + l.writes_left ≡ g.W.Sink.calls l.fn.sink + l.fn.writes_left;
  faults : g.W.Sink.faults l.sink ≡ g.W.Sink.faults l.fn.sink;
}

abbrev pub decreases-loop-rest : goal.decreases-loop-rest
decreases-loop-rest g l = l.writes_left
