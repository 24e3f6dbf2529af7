use Rattle.std.proofs.Common.{◌∙◌}
use Rattle.ob_tables.proofs.MemberLaws.{any_least}
use Rattle.ob_tables.proofs.processes.Processes.has_threads.Goals as goal

pub returns : goal.returns
returns c = c.is_some.ensures
    ∙ any_least c.args.self.now.threads c.args.process c.thread_from.result c.thread_from.ensures.least
