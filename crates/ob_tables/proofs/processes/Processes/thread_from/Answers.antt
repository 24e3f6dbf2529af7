use Rattle.ob_tables.proofs.MemberLaws.{few_from}
use Rattle.ob_tables.proofs.processes.Processes.thread_from.Goals as goal

pub returns-clause-most : goal.returns-clause-most
returns-clause-most c = few_from c.self.inside.threads.places.items c.args.process c.args.from c.first_from.result
    c.self.invariant.2.few (c.first_from.ensures c.self.inside.threads.places.items c.self.invariant.2)
