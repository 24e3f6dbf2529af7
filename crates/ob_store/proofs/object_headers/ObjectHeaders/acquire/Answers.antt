use Rattle.ob_store.proofs.Cited.{slot_due, refl, ◌∙◌, is_some}
use Rattle.ob_store.proofs.HeaderLaws.{rest_same, seen_acquired, mapped_stays}
use Rattle.ob_store.proofs.OwnerLaws.{owned_few}
use Rattle.ob_store.proofs.TimerLaws.{due_taken}
use Rattle.ob_store.proofs.ClosingLaws.{body_stays}
use Rattle.ob_store.proofs.NotedLaws.{noted_moved}
use Rattle.ob_store.proofs.object_headers.ObjectHeaders.acquire.Goals as goal

pub returns-clause-objects : goal.returns-clause-objects
returns-clause-objects c = rw (← c.self.view_is, c.acquire-acquired.ensures.value) (seen_acquired _ _ _ c.get_mut.ensures.value _)

pub returns-clause-rest : goal.returns-clause-rest
returns-clause-rest c = rw (← c.self.view_is) (rest_same _ _ _ c.get_mut.ensures.value _ _ _ _ c.acquire-acquired.ensures.value (λ l. refl) refl)

pub moved-requires : goal.moved-requires
moved-requires c = owned_few _ _ c.self.invariant.owned

pub invariant_of-self : goal.invariant_of-self
invariant_of-self c =
    let value = c.acquire-acquired.ensures.value in
    let was = c.get_mut.result.now.body in
    rw c.moved.ensures (noted_moved _ _ _ _ _ _ _ c.self.invariant _ _ _ c.get_mut.ensures.value _ _ _ c.acquire-acquired.ensures.before
    c.acquire-acquired.ensures.after
    (mapped_stays _ _ _ _ _ _ c.self.invariant.timed c.get_mut.ensures.value ((λ i. slot_due (value i).body) ∙ due_taken c.args.thread was))
    ((λ i. is_some (value i).body) ∙ body_stays c.args.thread was))
