use Rattle.ob_store.proofs.Cited.{◌≡◌, ◌∙◌, sym, refl, ap, None, parts_of, state_of, settled}
use Rattle.ob_store.proofs.AddedLaws.{kept_nameless, added_state, with_added}
use Rattle.ob_store.proofs.KeptLaws.{settled_kept}
use Rattle.ob_store.proofs.store.Store.add_nameless.Goals as goal

pub invariant_of-self : goal.invariant_of-self
invariant_of-self g c =
    rw (c.in-Ok.ensures.ok, c.id_at.ensures, c.add.ensures.added) (kept_nameless _ c.self.invariant c.kept.ensures c.args.process c.args.slot _ _ _ _
    (rw (← c.self.view_is) at c.requires.live) (rw (← c.self.view_is) at c.requires.vacant) c.requires.formed (rw (← c.self.view_is) at c.requires.owned)
    refl)

pub returns-in-Ok-clause-state : goal.returns-in-Ok-clause-state
returns-in-Ok-clause-state g c =
    let p = parts_of c.self.inside.parts in
    let new = c.args.new in
    let added = added_state p c.args.process c.args.slot new.rights new.flags (record { descr = new.descr; grant = new.grant; name = None }) new.body p.rows
    in
    let is : state_of (record p { tables = c.place.new.self; objects = c.add.new.self })
    ≡ with_added (state_of p) c.args.process c.args.slot new.rights new.flags (record { descr = new.descr; grant = new.grant; name = None }) new.body =
    rw (c.in-Ok.ensures.ok, c.id_at.ensures, c.add.ensures.added) added in
    rw (← c.self.view_is) (sym (settled_kept _ (invariant_of-self g c) c.kept-in-Ok.ensures) ∙ ap settled is)
