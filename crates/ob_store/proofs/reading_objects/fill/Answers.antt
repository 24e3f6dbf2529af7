use Rattle.ob_store.proofs.Cited.{◌++◌, ◌∙◌, ap, arith, replicate, opening_slot}
use Rattle.ob_store.proofs.UsedLaws.{one_filled}
use Rattle.ob_store.proofs.reading_objects.fill.Goals as goal

pub loop-preserved : goal.loop-preserved
loop-preserved c = rw (c.in_ok-push.ensures.items, c.loop.invariant, c.opening.ensures)
    (one_filled c.args.begun.now.items opening_slot c.loop.counter
    (omega (arith, c.len-counter.ensures, c.loop.auto.counter)))

pub returns : goal.returns
returns c = c.loop.invariant ∙ ap (λ k. c.args.begun.now.items ++ replicate k opening_slot)
    (omega (arith, c.len-counter.ensures, c.loop-test.false, c.loop.auto.counter-end, c.loop.auto.counter))
