use Rattle.ob_waits.proofs.Cited.{arith, drop-append-le}
use Rattle.ob_waits.proofs.NumberLaws.{ordered_appended, within_left, within_last}
use Rattle.ob_waits.proofs.rising_numbers.RisingNumbers.append.Goals as goal

pub returns-clause-ordered : goal.returns-clause-ordered
returns-clause-ordered c =
    let ordered = rw (← c.self.view_is) at c.requires.ordered in
    let above = rw (← c.self.view_is) at c.requires.above in
    search (arith, drop-append-le, ordered_appended)

pub returns-clause-keeps : goal.returns-clause-keeps
returns-clause-keeps c = search (arith, drop-append-le, within_left)

pub returns-clause-entered : goal.returns-clause-entered
returns-clause-entered c = search (arith, drop-append-le, within_last)
