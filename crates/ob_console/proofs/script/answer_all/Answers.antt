use Rattle.ob_console.proofs.Cited.{arith, length-take-le}
use Rattle.ob_console.proofs.Reading.{reading_on, reading_same, reading_fails, writing_fails, reading_ends, ending_fails}
use Rattle.ob_console.proofs.script.answer_all.Goals as goal

pub returns-in-Ok-finish-clause-answers : goal.returns-in-Ok-finish-clause-answers
returns-in-Ok-finish-clause-answers g c = let ends = c.in-Ok-finish.ensures.finishes in
    reading_ends c.loop-i.invariant.reading c.loop-i.invariant.written (search arith) ends.1 ends.2

pub returns-in-Err-clause-answers : goal.returns-in-Err-clause-answers
returns-in-Err-clause-answers g c = let ends = c.in-Err.ensures.finishes in
    ending_fails c.loop-i.invariant.reading c.loop-i.invariant.written (search arith) ends.1 ends.2

pub returns-in-Err-take-clause-answers : goal.returns-in-Err-take-clause-answers
returns-in-Err-take-clause-answers g c = writing_fails c.loop-i.invariant.reading c.loop-i.invariant.written
    c.in-Ok.ensures.given c.in-Err-take.ensures.err

pub returns-in-Err-Failed-clause-answers : goal.returns-in-Err-Failed-clause-answers
returns-in-Err-Failed-clause-answers g c =
    reading_fails (reading_same c.loop-i.invariant.reading _ c.in-Err-Failed.ensures.given)

pub loop-i-preserved : goal.loop-i-preserved
loop-i-preserved g c = grind (arith, length-take-le, reading_on, reading_same)

pub returns-clause-answers : goal.returns-clause-answers
returns-clause-answers g c = search (arith, reading_fails)
