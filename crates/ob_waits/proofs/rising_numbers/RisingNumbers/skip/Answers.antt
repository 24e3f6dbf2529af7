use Rattle.ob_waits.proofs.Cited.{arith, drop-drop, drop_all}
use Rattle.ob_waits.proofs.rising_numbers.RisingNumbers.skip.Goals as goal

pub returns-then-self-len : goal.returns-then-self-len
returns-then-self-len c = search (arith, drop-drop, drop_all)

pub returns-else-self-len : goal.returns-else-self-len
returns-else-self-len c = search (arith, drop-drop)
