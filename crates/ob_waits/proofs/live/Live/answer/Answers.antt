use Rattle.ob_waits.proofs.Cited.{arith, at_place}
use Rattle.ob_waits.proofs.live.Live.answer.Goals as goal

pub came-requires-clause-told : goal.came-requires-clause-told
came-requires-clause-told c =
    grind (arith, at_place)
