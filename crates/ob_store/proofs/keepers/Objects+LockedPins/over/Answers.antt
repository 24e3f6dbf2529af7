use Rattle.ob_store.proofs.Cited.{sym, subst, ObjectsState, with_keeper, KeeperState, IsFreshWith}
use Rattle.ob_store.proofs.KeeperLaws.{tied_over}
use Rattle.ob_store.proofs.keepers.Objects+LockedPins.over.Goals as goal

pub invariant_of-result : goal.invariant_of-result
invariant_of-result g c =
    let k : KeeperState = g.K.PinKeeper.kept c.args.keeper in
    tied_over (with_keeper c.self.inside.headers c.self.inside.births c.self.inside.keeper) k
    (subst (λ (s : ObjectsState). IsFreshWith k s.keeper.shape s.keeper.slots) (sym c.self.view_is) c.requires)
    c.self.invariant
