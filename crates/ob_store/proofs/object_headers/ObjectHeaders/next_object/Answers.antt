use Rattle.least.proofs.NextLemmas.{same_test}
use Rattle.ob_store.proofs.ClosingLaws.{object_there}
use Rattle.ob_store.proofs.object_headers.ObjectHeaders.next_object.Goals as goal

pub returns : goal.returns
returns c = rw (← c.self.view_is) (same_test _ _ _ _ (object_there _ _) c.next_occupied.ensures)
