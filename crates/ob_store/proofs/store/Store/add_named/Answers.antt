use Rattle.ob_store.proofs.Cited.{◌≡◌, ◌∙◌, ap, sym, refl, Some, ObjectAttributes, PartsState, parts_of, state_of, settled}
use Rattle.ob_name.specs.Refs.{name_at}
use Rattle.ob_store.proofs.AddedLaws.{kept_name, added_state, with_added}
use Rattle.ob_store.proofs.KeptLaws.{settled_kept}
use Rattle.ob_store.proofs.store.Store.add_named.Goals as goal

pub invariant_of-self-in-Ok : goal.invariant_of-self-in-Ok
invariant_of-self-in-Ok g c =
    let absent = rw (← c.self.view_is) at c.requires.absent in
    rw (
      c.enter.ensures.rows,
      c.add-id.ensures.id,
      c.add-id.ensures.added,
      c.in-Ok.ensures.ok,
      c.id_at.ensures,
      c.in_ok-kept.ensures.copy,
      c.in_ok-entered.ensures.copy,
      c.in_ok-entered.ensures.rows,
    ) (kept_name _ c.self.invariant c.kept.ensures c.args.process c.args.slot _ _ _ _
    (rw (← c.self.view_is) at c.requires.live) (rw (← c.self.view_is) at c.requires.vacant) c.requires.formed
    (rw (← c.self.view_is) at c.requires.owned) _ refl (rw c.self.invariant.sound.listing.same absent))

pub returns-in-Ok-clause-state : goal.returns-in-Ok-clause-state
returns-in-Ok-clause-state g c =
    let p = parts_of c.self.inside.parts in
    let new = c.args.new in
    let attributes : ObjectAttributes = record { descr = new.descr; grant = new.grant; name = Some (name_at c.args.name.now) } in
    let q : PartsState = record p {
      tables = c.place.new.self;
      objects = c.add-id.new.self;
      rows = c.enter.new.self.rows;
    } in
    let added : state_of q
    ≡ with_added (state_of p) c.args.process c.args.slot new.rights new.flags attributes new.body =
    rw (c.add-id.ensures.added, c.in-Ok.ensures.ok, c.id_at.ensures, c.in_ok-kept.ensures.copy)
    (added_state p c.args.process c.args.slot new.rights new.flags attributes new.body c.enter.new.self.rows) in
    rw (← c.self.view_is) (sym (settled_kept q (invariant_of-self-in-Ok g c) c.kept-in-Ok.ensures) ∙ ap settled added)
