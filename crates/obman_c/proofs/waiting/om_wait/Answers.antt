use Rattle.obman_c.proofs.Told.{tells_as}
use Rattle.obman_c.proofs.waiting.om_wait.Goals as goal

pub returns : goal.returns
returns c = tells_as (rw c.mode_of-mode.ensures at c.call.ensures)
    c.tell_answer.ensures.told c.tell_answer.ensures.value
