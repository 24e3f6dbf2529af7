use Rattle.ob_store.proofs.Cited.{◌∙◌, arith, nat_tests}
use Rattle.ob_store.proofs.UnderWayLaws.{ready, settled_unblocked, way_put, way_still}
use Rattle.ob_store.proofs.store.Store.put.Goals as goal

pub settle_after-requires : goal.settle_after-requires
settle_after-requires g c = record {
  sound = (way_put _ _ c.args.id _ _ c.self.invariant _ c.self.view_is c.requires.bodied c.requires.yields c.put.ensures.objects c.put.ensures.rest
      c.kept-2.ensures).sound;
  populated = c.self.invariant.populated;
  ready = ready _ _ c.args.id _ _ c.self.invariant _ c.self.view_is c.requires.bodied c.requires.yields c.put.ensures.objects c.put.ensures.rest;
}

pub returns : goal.returns
returns g c =
    let way = way_put _ _ c.args.id _ _ c.self.invariant _ c.self.view_is c.requires.bodied c.requires.yields c.put.ensures.objects c.put.ensures.rest
    c.kept-2.ensures in
    rw (← c.self.view_is) (record { state = c.settle_after.ensures.state _ _ way; keeper = c.settle_after.ensures.keeper ∙ way.keeper })

pub invariant_of-self : goal.invariant_of-self
invariant_of-self g c = record {
  sound = (way_put _ _ c.args.id _ _ c.self.invariant _ c.self.view_is c.requires.bodied c.requires.yields c.put.ensures.objects c.put.ensures.rest
      c.kept-2.ensures).sound;
  populated = c.self.invariant.populated;
  settled = settled_unblocked _ _ c.args.id _ _ c.self.invariant _ c.self.view_is c.requires.bodied c.requires.yields c.put.ensures.objects
      c.put.ensures.rest c.kept.ensures
      (grind (arith, nat_tests, c.blocks-blocks.ensures, c.if-blocks-eq0.true));
}

pub returns-then-blocks-eq0-clause-state : goal.returns-then-blocks-eq0-clause-state
returns-then-blocks-eq0-clause-state g c =
    let way = way_put _ _ c.args.id _ _ c.self.invariant _ c.self.view_is c.requires.bodied c.requires.yields c.put.ensures.objects c.put.ensures.rest
    c.kept-2.ensures in
    rw (← c.self.view_is) (way_still _ _ _ way (invariant_of-self g c).settled)
