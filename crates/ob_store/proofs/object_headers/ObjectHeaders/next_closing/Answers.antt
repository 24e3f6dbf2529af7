use Rattle.least.proofs.NextLemmas.{same_test}
use Rattle.ob_store.specs.Closing.{is_closing_in}
use Rattle.ob_store.proofs.ClosingLaws.{closing_read}
use Rattle.ob_store.proofs.object_headers.ObjectHeaders.next_closing.Goals as goal

pub returns : goal.returns
returns c = rw (← c.self.view_is) (same_test _ (is_closing_in _ _) _ _ (λ k. closing_read _ _ k c.self.invariant.opened _) c.next_free.ensures)
