use Rattle.ob_store.proofs.Cited.{◌∙◌, refl}
use Rattle.ob_store.proofs.KeptLaws.{few_handles, handled, kept_placed, whole_kept}
use Rattle.ob_store.proofs.store.Store.place_entry.Goals as goal

pub handle_came-requires-clause-live : goal.handle_came-requires-clause-live
handle_came-requires-clause-live g c = search (handled, rw (← c.self.view_is) at c.requires.handled, c.self.invariant.sound)

pub handle_came-requires-clause-room : goal.handle_came-requires-clause-room
handle_came-requires-clause-room g c = few_handles _ _ c.self.invariant.sound c.place.ensures.bounded

pub invariant_of-self : goal.invariant_of-self
invariant_of-self g c =
    rw (c.in-Ok.ensures.ok, c.handle_came.ensures) (kept_placed _ _ _ c.self.invariant (rw (← c.self.view_is) at c.requires.live)
    (rw (← c.self.view_is) at c.requires.handled))

pub returns-in-Ok-clause-ok : goal.returns-in-Ok-clause-ok
returns-in-Ok-clause-ok g c =
    rw (← c.self.view_is) (whole_kept _ (invariant_of-self g c) c.kept-in-Ok.ensures ∙ rw (c.in-Ok.ensures.ok, c.handle_came.ensures) refl)

pub returns-in-Ok-clause-plain : goal.returns-in-Ok-clause-plain
returns-in-Ok-clause-plain g c = rw (← c.self.view_is, c.in-Ok.ensures.ok, c.handle_came.ensures) refl
