use Rattle.ob_store.proofs.Cited.{◌∷◌, ◌<◌, [], handles_among, Any, parts_of, state_of, with_body, with_wait}
use Rattle.ob_store.proofs.EnoughLaws.{enough_added, enough_joined}
use Rattle.ob_store.proofs.KeptLaws.{handled}
use Rattle.ob_store.proofs.MetLaws.{single, way_met}
use Rattle.ob_store.proofs.OpenedLaws.{kept_opened, limit_told}
use Rattle.ob_store.proofs.WaitedLaws.{few_blocks}
use Rattle.ob_store.proofs.store.Store.wait_and_put.Goals as goal

pub blocks_came-requires-clause-live : goal.blocks_came-requires-clause-live
blocks_came-requires-clause-live g c =
    λ i lt. handled _ _ c.self.invariant.sound c.kept.ensures
    (single (λ x. 0 < handles_among x c.self.inside.parts.tables.tables) c.args.waited (rw (← c.self.view_is) at c.requires.handled) i lt)

pub blocks_came-requires-clause-room : goal.blocks_came-requires-clause-room
blocks_came-requires-clause-room g c = few_blocks _ c.self.invariant c.add_open.ensures.kept c.add_open.ensures.at_most

pub returns-in-Err-clause-limit : goal.returns-in-Err-clause-limit
returns-in-Err-clause-limit g c =
    let told = limit_told _ _ c.self.invariant c.add_open.ensures.kept c.add_open.ensures.full c.add_open.ensures.once in
    rw (← c.self.view_is) (rw c.in-Err.is at told)

pub settle-requires-clause-sound : goal.settle-requires-clause-sound
settle-requires-clause-sound g c =
    rw c.in-Ok.ensures.added (way_met _ c.args.thread c.args.waited c.args.deadline c.self.invariant c.put.new.self c.add-2.new.self c.args.id _ _
    (rw (← c.self.view_is) at c.requires.handled) (rw (← c.self.view_is) at c.requires.room) (rw (← c.self.view_is) at c.requires.live)
    (rw (← c.self.view_is) at c.requires.bodied) (rw (← c.self.view_is) at c.requires.yields) (rw c.blocks_came.ensures at c.put.ensures.objects)
    (rw c.blocks_came.ensures at c.put.ensures.rest) c.kept-2.ensures).sound

pub settle-requires-clause-enough : goal.settle-requires-clause-enough
settle-requires-clause-enough g c =
    let p = parts_of c.self.inside.parts in
    rw c.in-Ok.ensures.added (enough_added _ _ c.blocks_came.new.self.seen c.put.new.self.seen _ _ c.put.ensures.objects c.add-2.ensures.added
    c.add-2.ensures.before _
    (rw c.blocks_came.ensures (enough_joined c.add.new.self p.objects.seen.bodies _ c.args.thread _ _ (kept_opened p.limits.reuse p c.self.invariant).settled
    (λ whole. rw c.clear.ensures at (c.add.ensures.added whole)))))

pub returns-clause-ok : goal.returns-clause-ok
returns-clause-ok g c =
    let p = parts_of c.self.inside.parts in
    rw (← c.self.view_is) (c.settle.ensures.state p.objects.keeper
    (with_body (with_wait (state_of p) c.args.thread Any (c.args.waited ∷ []) c.args.deadline) c.args.id c.args.new)
    (rw c.in-Ok.ensures.added
    (way_met p c.args.thread c.args.waited c.args.deadline c.self.invariant c.put.new.self c.add-2.new.self c.args.id
    c.args.old c.args.new (rw (← c.self.view_is) at c.requires.handled) (rw (← c.self.view_is) at c.requires.room)
    (rw (← c.self.view_is) at c.requires.live) (rw (← c.self.view_is) at c.requires.bodied)
    (rw (← c.self.view_is) at c.requires.yields) (rw c.blocks_came.ensures at c.put.ensures.objects)
    (rw c.blocks_came.ensures at c.put.ensures.rest) c.kept-2.ensures)))
