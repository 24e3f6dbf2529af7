use Rattle.ob_tables.proofs.NumberLaws.{IsReadTo}
use Rattle.ob_tables.proofs.numbers.Numbers.read.Given as goal

abbrev pub invariant-loop-place : goal.invariant-loop-place
invariant-loop-place l = IsReadTo l.places.items l.taken l.place
