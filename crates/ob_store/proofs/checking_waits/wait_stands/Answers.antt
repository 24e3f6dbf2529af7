use Rattle.ob_store.proofs.Cited.{arith, position-Some}
use Rattle.ob_store.proofs.checking_waits.wait_stands.Goals as goal

pub returns-then-is_none : goal.returns-then-is_none
returns-then-is_none c = search (arith, position-Some)

pub returns-in-Some-pending : goal.returns-in-Some-pending
returns-in-Some-pending c = search (arith, position-Some)

pub returns-in-None : goal.returns-in-None
returns-in-None c = search (arith, position-Some)
