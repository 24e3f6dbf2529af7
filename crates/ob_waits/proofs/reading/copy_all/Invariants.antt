use Rattle.ob_waits.proofs.Cited.{◌≡◌, ◌-◌, suc, take, renewed}
use Rattle.ob_waits.proofs.reading.copy_all.Given as goal

abbrev pub invariant-loop-number : goal.invariant-loop-number
invariant-loop-number l = l.copy ≡ record l.fn.copy { waits = renewed (take (suc l.last) l.live) }

abbrev pub decreases-loop-number : goal.decreases-loop-number
decreases-loop-number l = 4294967295 - l.last
