use Rattle.ob_shared.proofs.Journals.{origin_loads, history_opens}
use Rattle.ob_shared.proofs.book.Book.resume.Goals as goal

pub invariant_of-result : goal.invariant_of-result
invariant_of-result g c =
    let loads = c.requires in
    rw c.new.ensures.items (history_opens c.args.saved.items c.args.manager
    (origin_loads _ _ loads.0 _ loads.1 loads.2) c.kept.ensures)
