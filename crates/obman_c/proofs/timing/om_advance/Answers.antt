use Rattle.obman_c.proofs.Timed.{advances, advances_none}
use Rattle.obman_c.proofs.timing.om_advance.Goals as goal
use Rattle.obman_c.proofs.timing.om_advance.Goals.{then-moment-le-LAST_MOMENT, else-moment-le-LAST_MOMENT}

pub returns : goal.returns
returns c =
    let lent = c.lend-held.ensures.value in
    elim c.if-moment-le-LAST_MOMENT.branch [
      | then-moment-le-LAST_MOMENT w ↦
          advances w.if-moment-le-LAST_MOMENT.true (rw lent at w.serve.ensures.served) w.serve.ensures.all
          (rw lent at w.serve.ensures.still) (rw w.held-is at c.call.ensures) c.told.ensures
      | else-moment-le-LAST_MOMENT w ↦
          advances_none w.if-moment-le-LAST_MOMENT.false (rw (w.held-is, lent) at c.call.ensures) c.told.ensures
    ]
