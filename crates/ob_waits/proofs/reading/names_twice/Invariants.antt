use Rattle.ob_waits.proofs.Cited.{◌≡◌, drop, names_twice}
use Rattle.ob_waits.proofs.reading.names_twice.Given as goal

abbrev pub invariant-loop-i : goal.invariant-loop-i
invariant-loop-i l = names_twice (drop l.i l.ids) ≡ names_twice l.ids
