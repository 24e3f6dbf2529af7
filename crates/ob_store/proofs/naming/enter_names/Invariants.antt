use Rattle.ob_store.proofs.Cited.{◌≡◌, names_in, named_from}
use Rattle.ob_store.proofs.naming.enter_names.Given as goal

abbrev pub invariant-loop-slot : goal.invariant-loop-slot
invariant-loop-slot l = named_from l.headers l.names.rows l.slot-iterator ≡ names_in l.order.entries l.headers
