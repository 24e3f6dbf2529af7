use Rattle.ob_store.proofs.Cited.{◌≡◌, [], drop, births_from}
use Rattle.ob_store.proofs.births.order_births.Given as goal

abbrev pub invariant-loop-slot : goal.invariant-loop-slot
invariant-loop-slot l = births_from l.births l.order.entries l.slot (drop l.slot l.headers.objects) ≡
    births_from l.births [] 0 l.headers.objects
