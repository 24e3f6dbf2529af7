use Rattle.ob_waits.proofs.Cited.{arith, drop-append-le}
use Rattle.ob_waits.proofs.NumberLaws.{rising_push}
use Rattle.ob_waits.proofs.answer_queue.AnswerQueue.enter.Goals as goal

pub returns-clause-rising : goal.returns-clause-rising
returns-clause-rising c = search (arith, drop-append-le, rising_push, c.as_slice.ensures, c.if-not-is_above.ensures, c.push_reserved.ensures.items, c.self.view_is)
