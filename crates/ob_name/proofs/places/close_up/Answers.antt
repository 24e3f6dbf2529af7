use Rattle.std.proofs.Common.{◌∙◌, arith}
use Rattle.ob_name.proofs.Moved.{IsCut, cuts}
use Rattle.ob_name.proofs.places.close_up.Goals.{After-truncate}
use Rattle.ob_name.proofs.places.close_up.Goals as goal

cut : (c : After-truncate) → IsCut c.loop-from.ids.entries c.loop-from.order.items c.loop-from.to
cut c = cuts c.loop-from.ids.entries c.loop-from.order.items c.loop-from.to c.loop-from.invariant.1 (search arith)
    (search arith)

pub returns-clause-rows : goal.returns-clause-rows
returns-clause-rows c = rw c.truncate.ensures.items ((cut c).rows ∙ c.loop-from.invariant.2)
