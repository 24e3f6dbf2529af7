use Rattle.std.proofs.Common.{arith}
use Rattle.least.proofs.NextLemmas.{clear_found, clear_least}
use Rattle.least.proofs.words.lowest_clear.Goals as goal

pub returns-clause-clear : goal.returns-clause-clear
returns-clause-clear c = search (arith, clear_found, c.lowest_from.ensures.least)

pub returns-clause-least : goal.returns-clause-least
returns-clause-least c = search (arith, clear_least)
