use Rattle.ob_rights.proofs.Inclusion.{within-included}
use Rattle.ob_rights.proofs.rights.within.Goals as goal

pub returns-clause-included : goal.returns-clause-included
returns-clause-included c = rw (c.contains.ensures tt) (within-included c.args.asked.0 c.args.held.0)
