use Rattle.least.proofs.BestLemmas.{IsLeastAmong}
use Rattle.least.proofs.best.least_since.Given as goal

abbrev pub invariant-loop-due : goal.invariant-loop-due
invariant-loop-due l = IsLeastAmong l.from l.due-index l.dues l.least
