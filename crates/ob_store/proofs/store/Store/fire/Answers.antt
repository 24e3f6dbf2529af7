use Rattle.ob_store.proofs.Cited.{◌∙◌}
use Rattle.ob_store.proofs.EnoughLaws.{enough_settled}
use Rattle.ob_store.proofs.TimeoutLaws.{undue_settled}
use Rattle.ob_store.proofs.TickLaws.{way_fired}
use Rattle.ob_store.proofs.store.Store.fire.Goals as goal

pub settle-requires : goal.settle-requires
settle-requires g c = record {
  sound = (way_fired _ _ c.fire_all.new.signaled c.args.now c.self.invariant (rw (← c.self.view_is) at c.requires.later) c.kept.ensures
      c.fire_all.ensures.seen c.fire_all.ensures.rest).sound;
  populated = c.self.invariant.populated;
  enough = c.fire_all.ensures.enough _ (enough_settled _ _ _ c.self.invariant.settled);
}

pub returns : goal.returns
returns g c =
    let way = way_fired _ _ c.fire_all.new.signaled c.args.now c.self.invariant (rw (← c.self.view_is) at c.requires.later) c.kept.ensures
    c.fire_all.ensures.seen c.fire_all.ensures.rest in
    rw (← c.self.view_is) (record {
      state = c.settle.ensures.state _ _ way;
      keeper = c.settle.ensures.keeper ∙ way.keeper;
      undue = undue_settled (record { objects = c.fire_all.new.objects.seen; waits = c.self.inside.parts.waits.waits }) _ _ c.args.now c.settle.ensures.value
          c.fire_all.ensures.undue;
    })
