use Rattle.ob_store.proofs.UnderWayLaws.{way_still}
use Rattle.ob_store.proofs.WaitedLaws.{settled_expired, way_expired}
use Rattle.ob_store.proofs.store.Store.end_wait_at.Goals as goal

pub invariant_of-self : goal.invariant_of-self
invariant_of-self g c =
    rw c.end.ensures (record {
      sound = (way_expired _ _ c.args.wait c.args.code _ c.self.invariant c.leave_all.ensures.rest c.in-Some.ensures.ids c.leave_all.ensures.objects
          c.kept-2.ensures).sound;
      populated = c.self.invariant.populated;
      settled = settled_expired _ _ c.args.wait c.args.code _ c.self.invariant c.leave_all.ensures.rest c.in-Some.ensures.ids c.leave_all.ensures.objects;
    })

pub returns-clause-state : goal.returns-clause-state
returns-clause-state g c =
    let way = way_expired _ _ c.args.wait c.args.code _ c.self.invariant c.leave_all.ensures.rest c.in-Some.ensures.ids c.leave_all.ensures.objects
    c.kept-2.ensures in
    rw (← c.self.view_is) (rw c.end.ensures (way_still _ _ _ way (rw c.end.ensures at (invariant_of-self g c).settled)))
