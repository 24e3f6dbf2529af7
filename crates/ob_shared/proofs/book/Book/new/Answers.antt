use Rattle.std.proofs.Common.{[]}
use Rattle.ob_shared.proofs.Journals.{history_opens}
use Rattle.ob_shared.proofs.book.Book.new.Goals as goal

pub invariant_of-result : goal.invariant_of-result
invariant_of-result g c =
    rw (c.new.ensures.items, c.new-2.ensures.items) (history_opens [] c.args.manager c.requires c.kept.ensures)
