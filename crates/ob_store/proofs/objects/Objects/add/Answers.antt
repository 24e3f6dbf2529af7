use Rattle.ob_store.proofs.Cited.{◌≡◌, ◌+◌, arith, id_of, ObjectsState, with_keeper}
use Rattle.ob_store.proofs.TiedLaws.{tied_added, births_few}
use Rattle.ob_store.proofs.objects.Objects.add.Goals as goal

pub overflow_add-self : goal.overflow_add-self
overflow_add-self g c = omega (arith, births_few _ c.self.invariant)

pub invariant_of-self : goal.invariant_of-self
invariant_of-self g c =
    let s : ObjectsState = with_keeper c.self.inside.headers c.self.inside.births (g.K.PinKeeper.kept c.self.inside.keeper) in
    let id : c.id_at-id.result ≡ id_of s.keeper.slots c.args.slot = rw (← c.self.view_is) at c.id_at-id.ensures in
    let headers = rw id at c.add.ensures.value in
    let keeper = rw c.store_descr.ensures at c.publish.ensures in
    tied_added s _ c.args.slot (record { descr = c.args.descr; grant = c.args.grant; name = c.args.name }) c.args.body
    (λ i. with_keeper (headers i) (s.births + 1) (keeper i)) (rw (← c.self.view_is) at c.requires.vacant) (rw (headers, id) at c.add.ensures.handles)
    c.requires.given c.self.invariant
