use Rattle.ob_console.proofs.Cited.{[], refl, sym, append-nil}
use Rattle.ob_console.proofs.Reading.{answered, reading_begins, reading_whole, reading_ends, writing_fails, ending_fails}
use Rattle.ob_console.proofs.script.answer_whole.Goals as goal

-- a write failed while the script was taken
pub returns-in-Err-clause-answers : goal.returns-in-Err-clause-answers
returns-in-Err-clause-answers g c = answered _ (writing_fails (reading_begins _ [] _ c.requires.ready)
    c.requires.ready.pending refl c.in-Err.ensures.err)

-- all is written
pub returns-in-Ok-finish-clause-answers : goal.returns-in-Ok-finish-clause-answers
returns-in-Ok-finish-clause-answers g c =
    let took = c.in-Ok.ensures in let ends = c.in-Ok-finish.ensures.finishes in
    answered _ (reading_ends (reading_whole c.requires.ready took.written took.ok) took.written
    (sym (append-nil c.args.script.now)) ends.1 ends.2)

-- a write failed at the end
pub returns-in-Err-finish-clause-answers : goal.returns-in-Err-finish-clause-answers
returns-in-Err-finish-clause-answers g c =
    let took = c.in-Ok.ensures in let ends = c.in-Err-finish.ensures.finishes in
    answered _ (ending_fails (reading_whole c.requires.ready took.written took.ok) took.written
    (sym (append-nil c.args.script.now)) ends.1 ends.2)
