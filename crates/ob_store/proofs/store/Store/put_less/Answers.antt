use Rattle.ob_store.proofs.Cited.{settled}
use Rattle.ob_store.proofs.UnderWayLaws.{settled_put_less, way_put, way_still}
use Rattle.ob_store.proofs.store.Store.put_less.Goals as goal

pub invariant_of-self : goal.invariant_of-self
invariant_of-self g c = record {
  sound = (way_put _ _ c.args.id _ _ c.self.invariant _ c.self.view_is c.requires.bodied c.requires.yields c.put.ensures.objects c.put.ensures.rest
      c.kept-2.ensures).sound;
  populated = c.self.invariant.populated;
  settled = settled_put_less _ _ c.args.id _ _ c.self.invariant _ c.self.view_is c.requires.bodied c.requires.yields c.put.ensures.objects c.put.ensures.rest
      c.requires.less;
}

pub returns-clause-state : goal.returns-clause-state
returns-clause-state g c =
    let way = way_put _ _ c.args.id _ _ c.self.invariant _ c.self.view_is c.requires.bodied c.requires.yields c.put.ensures.objects c.put.ensures.rest
    c.kept-2.ensures in
    rw (← c.self.view_is) (way_still _ _ _ way (invariant_of-self g c).settled)
