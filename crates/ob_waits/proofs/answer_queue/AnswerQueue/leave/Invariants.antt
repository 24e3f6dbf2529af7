use Rattle.ob_waits.proofs.Cited.{◌-◌, ◌≤◌, drop, length, ThinsAnswered}
use Rattle.ob_waits.proofs.answer_queue.AnswerQueue.leave.Given as goal

abbrev pub invariant-loop-self : goal.invariant-loop-self
invariant-loop-self l = record {
  drops : ThinsAnswered l.waits l.fn.self (drop l.self-inside.start l.self-inside.numbers.items);
  within : l.self-inside.start ≤ length l.self-inside.numbers.items;
}

abbrev pub decreases-loop-self : goal.decreases-loop-self
decreases-loop-self l = length l.self-inside.numbers.items - l.self-inside.start
