use Rattle.std.proofs.Common.{arith}
use Rattle.ob_store.proofs.HeaderLaws.{places_handle_left}
use Rattle.ob_store.proofs.ClosingLaws.{gone_was_there}
use Rattle.ob_store.proofs.NotedLaws.{noted_left}
use Rattle.ob_store.proofs.object_headers.ObjectHeaders.last_handle_left.Goals as goal

pub returns-clause-value : goal.returns-clause-value
returns-clause-value c = rw (← c.self.view_is, c.handle_left-gone.ensures.value) (places_handle_left _ _ _ c.get_mut.ensures.value _ _)

pub invariant_of-self : goal.invariant_of-self
invariant_of-self c =
    rw (c.left.ensures, c.owner_of.ensures, c.due_left.ensures, c.due_of.ensures, c.close.ensures, c.is_some.ensures)
    (noted_left _ _ _ _ _ _ _ c.self.invariant _ _ _ c.get_mut.ensures.value _ _ c.handle_left-gone.ensures.gone
    (λ i. (c.handle_left-gone.ensures.value i).body))

pub close-requires : goal.close-requires
close-requires c =
    search (arith, gone_was_there, c.self.invariant.opened, c.get_mut.ensures.value, c.handle_left-gone.ensures.gone, c.is_some.ensures)
