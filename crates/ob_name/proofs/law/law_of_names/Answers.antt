use Rattle.ob_name.specs.Same.{same_name-Decides}
use Rattle.ob_name.proofs.Distinct.{row_found}
use Rattle.ob_name.proofs.Naming.{named_both}
use Rattle.ob_name.proofs.law.law_of_names.Goals as goal

pub returns-clause-named : goal.returns-clause-named
returns-clause-named c = named_both

pub returns-clause-same : goal.returns-clause-same
returns-clause-same c = same_name-Decides

pub returns-clause-found : goal.returns-clause-found
returns-clause-found c = row_found
