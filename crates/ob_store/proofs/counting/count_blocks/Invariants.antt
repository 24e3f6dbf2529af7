use Rattle.ob_store.proofs.SavedWaitLaws.{HasCounted}
use Rattle.ob_store.proofs.counting.count_blocks.Given as goal

abbrev pub invariant-loop-slot : goal.invariant-loop-slot
invariant-loop-slot l = HasCounted l.waits.waits l.fn.headers l.slot l.headers
