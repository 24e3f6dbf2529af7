use Rattle.std.proofs.Common.{length}
use Rattle.obman_c.proofs.readers.let_go.Given as goal

abbrev pub decreases-loop-id : goal.decreases-loop-id
decreases-loop-id l = length l.reader.view.held
