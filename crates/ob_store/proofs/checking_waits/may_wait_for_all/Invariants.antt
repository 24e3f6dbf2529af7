use Rattle.ob_store.proofs.Cited.{◌≡◌, drop, list_all, may_wait_for}
use Rattle.ob_store.proofs.checking_waits.may_wait_for_all.Given as goal

abbrev pub invariant-loop-id : goal.invariant-loop-id
invariant-loop-id l = list_all (may_wait_for l.limit l.objects l.thread) (drop l.id-index l.ids)
    ≡ list_all (may_wait_for l.limit l.objects l.thread) l.ids
