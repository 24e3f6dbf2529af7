use Rattle.ob_shared.proofs.Journals.{history_state}
use Rattle.ob_shared.proofs.book.Book.replays.Goals as goal

pub returns-clause-state : goal.returns-clause-state
returns-clause-state g c =
    let i = c.self.inside in
    rw (← c.self.view_is) (history_state i.saved.items i.journal.items i.manager c.self.invariant)
