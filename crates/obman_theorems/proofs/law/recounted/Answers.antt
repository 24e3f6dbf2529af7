use Rattle.obman_theorems.proofs.Histories.{book_recounts, new_recounts}
use Rattle.obman_theorems.proofs.law.recounted.Goals as goal

pub returns-clause-new : goal.returns-clause-new
returns-clause-new g c =
    new_recounts c.args.book.now.saved c.args.book.now.journal c.args.book.now.manager c.replays.ensures.history

pub returns-clause-loaded : goal.returns-clause-loaded
returns-clause-loaded g c =
    book_recounts c.args.book.now.saved c.args.book.now.journal c.args.book.now.manager c.replays.ensures.history
