use Rattle.std.proofs.Common.{arith}
use Rattle.ob_waits.proofs.AnswerLaws.{told_room}
use Rattle.ob_waits.proofs.answered_numbers.AnsweredNumbers.make_room.Goals as goal

pub returns-clause-told : goal.returns-clause-told
returns-clause-told c waits told = told_room c.make_room.ensures c.make_room-2.ensures.same
    c.make_room-2.ensures.longer (search arith)
