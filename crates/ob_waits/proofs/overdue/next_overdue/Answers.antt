use Rattle.ob_waits.proofs.DeadlineLaws.{none_overdue}
use Rattle.ob_waits.proofs.overdue.next_overdue.Goals as goal

pub returns-clause-none : goal.returns-clause-none
returns-clause-none c = none_overdue c.args.live.now c.loop-thread.deadlines c.loop-thread.invariant c.args.now
    c.in_default.ensures.none
