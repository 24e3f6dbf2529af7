use Rattle.obman_theorems.proofs.Running.{ended_runs}
use Rattle.obman_theorems.proofs.law.ran.Goals as goal

pub returns : goal.returns
returns g c = let told = c.run.ensures.answers in (
  told.0,
  told.1,
  told.2,
  told.3,
  ended_runs c.run.result c.args.more c.args.limits told.0 told.1 told.4,
  told.4,
)
