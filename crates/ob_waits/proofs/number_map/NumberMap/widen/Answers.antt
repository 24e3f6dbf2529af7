use Rattle.ob_waits.proofs.Cited.{◌*◌, ◌+◌, subst, List, Option, arith, NumberedThread, IsSpread}
use Rattle.ob_waits.proofs.PlaceLaws.{spread_placed, wide_is}
use Rattle.ob_waits.proofs.number_map.NumberMap.widen.Goals as goal

pub returns-clause-number_map : goal.returns-clause-number_map
returns-clause-number_map c =
    let spread = subst (λ (ps : List (Option NumberedThread)). IsSpread
    (c.args.self.now.mask * 2 + 1) ps c.spread.new.places.items) c.as_slice.ensures.value c.spread.ensures in
    search (arith, spread_placed, wide_is, c.requires.number_map.placed)
