use Rattle.std.proofs.Common.{arith}
use Rattle.ob_waits.proofs.StandingLaws.{waitable}
use Rattle.ob_waits.proofs.reading.put_wait.Goals as goal

pub admit-requires-clause-waitable : goal.admit-requires-clause-waitable
admit-requires-clause-waitable c =
    grind (arith, waitable)
