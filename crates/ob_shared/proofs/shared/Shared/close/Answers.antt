use Rattle.ob_shared.proofs.Journals.{is_history}
use Rattle.ob_shared.proofs.shared.Shared.close.Goals as goal

pub returns-in-Some-clause-cause : goal.returns-in-Some-clause-cause
returns-in-Some-clause-cause c = let book = c.into_book-book.result in (
  book.journal,
  book.manager,
  is_history book.journal book.manager (rw c.into_book-book.ensures.new at c.replays.ensures.history),
  rw (← c.self.view_is) (rw c.as_slice.ensures.value at c.in-Some.ensures.cause),
)
