use Rattle.std.proofs.Common.{arith}
use Rattle.ob_store.proofs.LabelLaws.{tags_named, tags_plain}
use Rattle.ob_store.proofs.object_headers.relabel.Goals as goal

pub returns-in_default-clause-value : goal.returns-in_default-clause-value
returns-in_default-clause-value c = search (arith, tags_plain, c.in_default.is)

pub returns-clause-value : goal.returns-clause-value
returns-clause-value c = search (arith, tags_named, c.in-Some.is, c.requires.named)
