use Rattle.ob_store.proofs.Cited.{◌≡◌, drop, counting_all}
use Rattle.ob_store.proofs.counting.count_tables.Given as goal

abbrev pub invariant-loop-process : goal.invariant-loop-process
invariant-loop-process l = counting_all l.headers (drop l.process l.tables.tables) ≡
    counting_all l.fn.headers l.tables.tables
