use Rattle.ob_store.proofs.Cited.{◌≡◌, ℕ, ◌<◌, None, get_or, true, owner_stands}
use Rattle.ob_store.proofs.checking_waits.owners_stand.Given as goal

abbrev pub invariant-loop-slot : goal.invariant-loop-slot
invariant-loop-slot l = (k : ℕ) → k < l.slot →
    owner_stands l.processes.threads (get_or l.objects.seen.bodies k None) ≡ true
