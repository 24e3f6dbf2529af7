use Rattle.obman_theorems.proofs.Rest.{steps}
use Rattle.obman_theorems.proofs.law.made.Goals as goal

pub returns-clause-made : goal.returns-clause-made
returns-clause-made g c =
    steps c.args.manager.now c.apply-reply.new.self c.args.call.now c.apply-reply.result c.apply-reply.ensures.step
    c.kept.ensures c.kept-2.ensures
