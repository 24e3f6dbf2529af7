use Rattle.std.proofs.Common.{arith}
use Rattle.std.proofs.lemmas.List.{get_or-replicate}
use Rattle.ob_shared.proofs.comparing.are_whole.Goals as goal

pub are_parts-requires-clause-none : goal.are_parts-requires-clause-none
are_parts-requires-clause-none c k within = get_or-replicate 256 k 0 0
    (omega (arith, within, c.if-lanes-le-AT_ONCE.true))
