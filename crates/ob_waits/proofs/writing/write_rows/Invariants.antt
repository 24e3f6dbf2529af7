use Rattle.std.proofs.Common.{◌-◌}
use Rattle.ob_waits.proofs.WriteLaws.{Written}
use Rattle.ob_waits.proofs.writing.write_rows.Given as goal

abbrev pub invariant-loop-number : goal.invariant-loop-number
invariant-loop-number l = Written l.last l.count l.out.items l.fn.out.items l.live

abbrev pub decreases-loop-number : goal.decreases-loop-number
decreases-loop-number l = 4294967295 - l.last
