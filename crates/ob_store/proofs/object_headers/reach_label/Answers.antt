use Rattle.ob_store.proofs.Cited.{arith, rules, padded_long, padded_push}
use Rattle.ob_store.proofs.LabelLaws.{tags_length, tags_push}
use Rattle.ob_store.proofs.object_headers.reach_label.Goals as goal

pub loop-labels-preserved : goal.loop-labels-preserved
loop-labels-preserved c = search (rules, tags_push, padded_push, tags_length)

pub returns-clause-value : goal.returns-clause-value
returns-clause-value c = search (arith, padded_long, tags_length)
