use Rattle.ob_store.proofs.EndingLaws.{ending_thread}
use Rattle.ob_store.proofs.parts.Parts.end_one.Goals as goal

pub returns-clause-carries : goal.returns-clause-carries
returns-clause-carries g c =
    rw (c.end_thread.ensures, c.drop_thread.ensures) (ending_thread _ c.leave_wait.new.objects _ _ _ c.leave_wait.ensures.waits c.leave_wait.ensures.seen
    c.leave_wait.ensures.rest
    c.abandon.ensures.seen c.abandon.ensures.rest c.kept.ensures c.abandon.ensures.enough)
