use Rattle.std.proofs.Common.{sym}
use Rattle.ob_waits.proofs.DeadlineLaws.{least_none, least_overdue}
use Rattle.ob_waits.proofs.overdue.next_due.Goals as goal

pub returns-then-is_some-clause-least : goal.returns-then-is_some-clause-least
returns-then-is_some-clause-least c =
    least_overdue c.args.live.now c.loop-due.deadlines c.loop-due.invariant c.overdue_of.result c.in-Some.due
    c.in-Some.ensures (sym c.if-is_some.ensures) c.overdue_of.ensures.found

pub returns-clause-least : goal.returns-clause-least
returns-clause-least c = least_none c.args.live.now c.loop-due.deadlines c.loop-due.invariant c.in_default.ensures
