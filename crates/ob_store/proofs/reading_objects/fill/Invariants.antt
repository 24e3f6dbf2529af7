use Rattle.ob_store.proofs.Cited.{◌≡◌, ◌-◌, ◌++◌, length, replicate, opening_slot}
use Rattle.ob_store.proofs.reading_objects.fill.Given as goal

abbrev pub invariant-loop : goal.invariant-loop
invariant-loop l = l.begun.items ≡ l.fn.begun.items ++ replicate (l.counter - length l.fn.begun.items) opening_slot
