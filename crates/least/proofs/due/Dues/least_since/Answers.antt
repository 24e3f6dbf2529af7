use Rattle.std.proofs.Common.{arith, None}
use Rattle.least.proofs.PaddedLemmas.{padded_at}
use Rattle.least.proofs.due.Dues.least_since.Goals as goal

pub returns : goal.returns
returns c = search (arith, padded_at None c.self.inside.len c.self.inside.dues.items)
