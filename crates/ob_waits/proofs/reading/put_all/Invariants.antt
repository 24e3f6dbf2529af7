use Rattle.ob_waits.proofs.Cited.{drop, map, built, numbered_parts}
use Rattle.ob_waits.proofs.RowLaws.{Goes}
use Rattle.ob_waits.proofs.reading.put_all.Given as goal

abbrev pub invariant-loop-held : goal.invariant-loop-held
invariant-loop-held l = Goes l.last l.waits (map numbered_parts (drop l.held-index l.rows))
    (built l.fn.waits.limit l.fn.waits.clock l.last l.rows)
