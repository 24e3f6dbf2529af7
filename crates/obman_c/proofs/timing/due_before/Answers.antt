use Rattle.std.proofs.Common.{arith}
use Rattle.obman_c.proofs.Timed.{due_after}
use Rattle.obman_c.proofs.timing.due_before.Goals as goal

pub returns-then-due-moment-clause-after : goal.returns-then-due-moment-clause-after
returns-then-due-moment-clause-after c =
    (due_after c.args.held.now.manager c.in_ok-due.due c.kept.ensures c.in_ok-due.ensures.least).0

pub returns-then-due-moment-clause-last : goal.returns-then-due-moment-clause-last
returns-then-due-moment-clause-last c =
    (due_after c.args.held.now.manager c.in_ok-due.due c.kept.ensures c.in_ok-due.ensures.least).1

pub returns-else-due-moment-clause-none : goal.returns-else-due-moment-clause-none
returns-else-due-moment-clause-none c due least =
    omega (arith, c.in_ok-due.ensures.least.first least.stands.0 due least.stands.1, c.if-due-moment.false)
