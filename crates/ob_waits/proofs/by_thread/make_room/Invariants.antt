use Rattle.std.proofs.Common.{◌≡◌, ◌-◌, ◌+◌, ℕ, length, None, get_or}
use Rattle.ob_waits.proofs.by_thread.make_room.Given as goal

abbrev pub invariant-loop-by_thread : goal.invariant-loop-by_thread
invariant-loop-by_thread l = (t : ℕ) → get_or l.by_thread.items t None ≡ get_or l.initial.by_thread.items t None

abbrev pub decreases-loop-by_thread : goal.decreases-loop-by_thread
decreases-loop-by_thread l = l.thread + 1 - length l.by_thread.items
