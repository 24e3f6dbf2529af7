use Rattle.std.proofs.Common.{arith}
use Rattle.ob_script.proofs.Marked.{line_ends}
use Rattle.ob_script.proofs.ends.near_ends.Goals as goal

pub returns-clause-line : goal.returns-clause-line
returns-clause-line c = line_ends _ c.requires _ c.marks_of-feeds.type_inv (omega arith) c.marks_of-feeds.ensures
