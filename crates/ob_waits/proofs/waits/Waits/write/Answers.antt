use Rattle.ob_waits.proofs.Cited.{OnOk, subst, arith, WaitsFit, WaitList}
use Rattle.ob_waits.proofs.StandingLaws.{kept_can_be}
use Rattle.ob_waits.proofs.WriteLaws.{rows_fit}
use Rattle.ob_waits.proofs.waits.Waits.write.Goals as goal

pub returns-clause-fits : goal.returns-clause-fits
returns-clause-fits c =
    let s = c.self.inside in
    let fits : WaitsFit (record { limit = s.limit; waits = s.live; clock = s.clock }) = (
      rows_fit s.live c.given.result c.self.invariant.0.zero_has_none c.given.ensures c.given.type_inv
          c.in_ok-count.ensures.fits,
      kept_can_be s.limit s.clock s.live s.pending_index s.deadlines c.self.invariant.0 c.self.invariant.1,
    ) in
    subst (λ (l : WaitList). OnOk c.extend_from_slice.result (WaitsFit l)) c.self.view_is
    (search arith)
