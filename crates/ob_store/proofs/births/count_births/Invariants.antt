use Rattle.ob_store.proofs.Cited.{◌≡◌, ◌≤◌, ◌*◌, take, sum_by, made_in}
use Rattle.ob_store.proofs.births.count_births.Given as goal

abbrev pub invariant-loop-slot : goal.invariant-loop-slot
invariant-loop-slot l = record {
  sum : l.births ≡ sum_by made_in (take l.slot-index l.slots);
  at_most : l.births ≤ l.slot-index * 4294967295;
}
