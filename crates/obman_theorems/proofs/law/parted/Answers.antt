use Rattle.obman_theorems.proofs.Histories.{book_history, if_none}
use Rattle.obman_theorems.proofs.law.parted.Goals as goal

pub returns-clause-whole : goal.returns-clause-whole
returns-clause-whole g c =
    if_none c.cause.result (λ whole. book_history c.args.given c.args.lanes.now c.args.book.now.saved
    c.args.book.now.journal c.args.book.now.manager c.replays.ensures.history whole) c.cause.ensures.whole
