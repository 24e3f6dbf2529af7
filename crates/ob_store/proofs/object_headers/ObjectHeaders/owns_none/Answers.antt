use Rattle.ob_store.proofs.OwnerLaws.{none_owned}
use Rattle.ob_store.proofs.object_headers.ObjectHeaders.owns_none.Goals as goal

pub returns : goal.returns
returns c = rw (← c.self.view_is) (λ is. none_owned _ _ _ c.self.invariant.owned (c.has_none.ensures.within is) (c.has_none.ensures.none is))
