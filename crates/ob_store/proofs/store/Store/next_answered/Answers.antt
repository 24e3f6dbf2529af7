use Rattle.std.proofs.Common.{false, true}
use Rattle.ob_store.proofs.OpenedLaws.{next_told}
use Rattle.ob_store.proofs.store.Store.next_answered.Goals as goal

pub returns-then-self : goal.returns-then-self
returns-then-self g c =
    rw (← c.self.view_is) (next_told _ _ true _ (λ _. rw (← c.self.view_is) at c.kept.ensures.waits) c.if-self.true
    (rw (rw (← c.self.view_is) at c.wait_number.ensures) at c.in_ok-answer.ensures.least) c.in_ok-answer.ensures.answer)

pub returns-else-self : goal.returns-else-self
returns-else-self g c =
    rw (← c.self.view_is) (next_told _ _ false _ (λ e. absurd (cc e)) c.if-self.false
    (rw (rw (← c.self.view_is) at c.wait_number.ensures) at c.in_ok-answer.ensures.least) c.in_ok-answer.ensures.answer)
