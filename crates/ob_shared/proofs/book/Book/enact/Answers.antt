use Rattle.ob_shared.proofs.book.Book.enact.Goals as goal

pub returns-clause-exact : goal.returns-clause-exact
returns-clause-exact g c = rw c.receipt.ensures c.in_ok-entered.ensures.exact
