use Rattle.std.proofs.Common.{take}
use Rattle.ob_shared.specs.Comparing.{HaveRead}
use Rattle.ob_shared.proofs.comparing.read_on.Given as goal

abbrev pub invariant-loop-entry : goal.invariant-loop-entry
invariant-loop-entry l = HaveRead l.first l.lanes (take l.entry-index l.journal) l.read
