use Rattle.std.proofs.Common.{arith}
use Rattle.ob_waits.proofs.index.Index.enter.Goals as goal

pub returns-clause-keeps : goal.returns-clause-keeps
returns-clause-keeps c = search (arith, c.enter_there.ensures.keeps.each, c.in_ok-make_room.ensures.same)

pub returns-clause-stays : goal.returns-clause-stays
returns-clause-stays c = search (arith, c.enter_there.ensures.stays, c.in_ok-make_room.ensures.same)
