use Rattle.std.proofs.Common.{arith, rules}
use Rattle.ob_waits.proofs.AnswerLaws.{next_one}
use Rattle.ob_waits.proofs.answer_queue.search_above.Goals as goal

pub returns-then-is_answered-clause-least : goal.returns-then-is_answered-clause-least
returns-then-is_answered-clause-least c = search (arith, c.in-Some.ensures.least, c.loop-number.invariant.least)

pub loop-number-preserved : goal.loop-number-preserved
loop-number-preserved c = record {
  later = search arith;
  least = λ k w above is.
      let le = c.in-Some.ensures.least k w (c.loop-number.invariant.least k w above is) in
      next_one k c.in-Some.number c.args.waits.now le is (search rules);
}

pub returns-clause-least : goal.returns-clause-least
returns-clause-least c = search (arith, c.in_default.ensures.least, c.loop-number.invariant.least)
