use Rattle.ob_store.proofs.Cited.{arith}
use Rattle.ob_store.proofs.SavedWaitLaws.{counts_end}
use Rattle.ob_store.proofs.counting.count_blocks.Goals as goal

pub returns : goal.returns
returns c = counts_end c.args.waits.now.waits c.args.headers.now c.loop-slot.headers c.loop-slot.slot
    c.loop-slot.invariant (omega (arith, c.loop-slot-test.false, c.len-slot-end.ensures))
