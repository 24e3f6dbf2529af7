use Rattle.std.proofs.Common.{rules}
use Rattle.ob_shared.proofs.Parts.{read_next, read_other}
use Rattle.ob_shared.proofs.comparing.read_on.Goals.{then-entry-first+then-entry-first-2+in-Some, else-entry-first, else-entry-first-via-then-entry-first+else-entry-first-2, else-entry-first-via-else-entry-first}
use Rattle.ob_shared.proofs.comparing.read_on.Goals as goal

pub loop-entry-preserved : goal.loop-entry-preserved
loop-entry-preserved c = elim c.if-entry-first.branch [
  | then-entry-first+then-entry-first-2+in-Some w ↦ search (rules, read_next)
  | else-entry-first w ↦ search (rules, read_other)
]
