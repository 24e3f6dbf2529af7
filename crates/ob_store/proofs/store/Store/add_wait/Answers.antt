use Rattle.ob_store.proofs.Cited.{◌∙◌, parts_of}
use Rattle.ob_store.proofs.KeptLaws.{handled}
use Rattle.ob_store.proofs.OpenedLaws.{kept_opened, limit_told, opened_whole, with_opened}
use Rattle.ob_store.proofs.WaitedLaws.{few_blocks, kept_waiting, whole_waiting}
use Rattle.ob_store.proofs.store.Store.add_wait.Goals as goal

pub blocks_came-requires-clause-live : goal.blocks_came-requires-clause-live
blocks_came-requires-clause-live g c = λ i lt. search (handled, rw (← c.self.view_is) at (c.requires.handled i lt), c.self.invariant.sound)

pub blocks_came-requires-clause-room : goal.blocks_came-requires-clause-room
blocks_came-requires-clause-room g c = few_blocks _ c.self.invariant c.add_open.ensures.kept c.add_open.ensures.at_most

pub invariant_of-self : goal.invariant_of-self
invariant_of-self g c =
    rw (c.in-Ok.ensures.added, c.blocks_came.ensures) (kept_waiting _ _ _ _ _ (kept_opened _ _ c.self.invariant)
    (rw (← c.self.view_is) at c.requires.handled) (rw (← c.self.view_is) at c.requires.room) (rw (← c.self.view_is) at c.requires.live)
    (rw (← c.self.view_is) at c.requires.unready))

pub returns-in-Ok-clause-ok : goal.returns-in-Ok-clause-ok
returns-in-Ok-clause-ok g c =
    let p = parts_of c.self.inside.parts in
    rw (← c.self.view_is, c.in-Ok.ensures.added, c.blocks_came.ensures)
    (whole_waiting (with_opened p.limits.reuse p) c.args.thread _ _ _ (rw (c.in-Ok.ensures.added, c.blocks_came.ensures) at (invariant_of-self g c))
    (rw c.blocks_came.ensures at c.kept-in-Ok.ensures) ∙ opened_whole p _ _ _ _ c.self.invariant)

pub returns-in-Err-clause-limit : goal.returns-in-Err-clause-limit
returns-in-Err-clause-limit g c =
    rw (← c.self.view_is, ← c.in-Err.is) (limit_told _ _ c.self.invariant c.add_open.ensures.kept c.add_open.ensures.full c.add_open.ensures.once)
