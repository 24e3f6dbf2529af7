use Rattle.std.proofs.Common.{arith}
use Rattle.ob_waits.proofs.PassLaws.{before_first}
use Rattle.ob_waits.proofs.take.first_place.Goals as goal

pub returns-in-Some-clause-before : goal.returns-in-Some-clause-before
returns-in-Some-clause-before c = λ thread bodies only. before_first c.args.slot c.in-Some.slot c.place_of.result thread
    bodies c.args.ids.now (search arith) c.place_of.ensures.bound c.place_of.ensures.others only
