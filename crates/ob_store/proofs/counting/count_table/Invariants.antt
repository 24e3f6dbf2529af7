use Rattle.ob_store.proofs.Cited.{◌≡◌, drop, counting_in}
use Rattle.ob_store.proofs.counting.count_table.Given as goal

abbrev pub invariant-loop-place : goal.invariant-loop-place
invariant-loop-place l = counting_in l.headers (drop l.place-index l.places) ≡ counting_in l.fn.headers l.places
