use Rattle.ob_store.proofs.Cited.{◌≡◌, ℕ, ◌<◌, true, wait_stands, wait_of}
use Rattle.ob_store.proofs.checking_waits.waits_stand.Given as goal

abbrev pub invariant-loop-thread : goal.invariant-loop-thread
invariant-loop-thread l = (t : ℕ) → t < l.thread →
    wait_stands l.limits.max_recursion l.processes.threads l.objects (wait_of t l.waits.waits) ≡ true
