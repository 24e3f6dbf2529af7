use Rattle.ob_tables.specs.SpellingLaws.{tables_again, tables_take}
use Rattle.ob_tables.proofs.law.law_of_spelled_tables.Goals as goal

pub returns-clause-again : goal.returns-clause-again
returns-clause-again c = tables_again

pub returns-clause-takes : goal.returns-clause-takes
returns-clause-takes c = tables_take
