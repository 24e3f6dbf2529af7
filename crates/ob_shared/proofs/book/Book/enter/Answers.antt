use Rattle.ob_shared.specs.declared.book.Entry.{Entry}
use Rattle.ob_shared.proofs.Journals.{history_next}
use Rattle.ob_shared.proofs.book.Book.enter.Goals as goal

pub invariant_of-self-2 : goal.invariant_of-self-2
invariant_of-self-2 g c =
    let entry : Entry = record { lane = c.args.lane; call = c.args.copy; reply = c.apply-reply.result } in
    rw (c.push_reserved.ensures.items, c.reserve.ensures.items) (history_next c.self.inside.saved.items
    c.self.inside.journal.items c.self.inside.manager c.apply-reply.new.self entry c.self.invariant
    (rw c.requires c.apply-reply.ensures.step) c.kept.ensures)

pub returns-clause-exact : goal.returns-clause-exact
returns-clause-exact g c = rw (← c.self.view_is) c.apply-reply.ensures.exact
