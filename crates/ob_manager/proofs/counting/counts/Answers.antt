use Rattle.std.proofs.Common.{arith}
use Rattle.std.proofs.lemmas.Bool.Decides.{nat_tests}
use Rattle.ob_tables.proofs.Counting.{one_id}
use Rattle.ob_manager.proofs.counting.counts.Goals as goal

pub returns : goal.returns
returns g c = grind (arith, nat_tests, one_id c.in-Some.found.header.now.id c.args.id)
