use Rattle.ob_manager.proofs.Refusing.{name_known}
use Rattle.ob_manager.proofs.creating.name_in.Goals as goal

pub returns-clause-refusal : goal.returns-clause-refusal
returns-clause-refusal g c = name_known c.parse.result c.args.text.now c.in-Some.session c.parse.ensures.value
