use Rattle.ob_waits.proofs.Keeping.{Fade}
use Rattle.ob_waits.proofs.DeadlineLaws.{timely_faded}
use Rattle.ob_waits.proofs.TrackedLaws.{fade_answered, tracked_faded}
use Rattle.ob_waits.proofs.waits.Waits.end.Goals as goal

pub invariant_of-self : goal.invariant_of-self
invariant_of-self c =
    let w = c.self.inside in
    let fade : Fade w.live c.answer.new.self = rw c.answer.ensures
    (fade_answered w.live c.args.wait c.args.code c.requires.coded (rw (← c.self.view_is) at c.requires.pending)) in (
      tracked_faded w.limit w.live c.answer.new.self w.pending_index fade c.self.invariant.0,
      timely_faded w.clock w.live c.answer.new.self w.deadlines fade c.self.invariant.1,
    )
