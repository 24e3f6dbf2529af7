use Rattle.std.proofs.Math.Facts.{to_z-of_z}
use Rattle.obman_c.proofs.Told.{tells_as}
use Rattle.obman_c.proofs.waiting.om_wait_until.Goals as goal

pub returns : goal.returns
returns c =
    tells_as (rw (c.mode_of-mode.ensures, c.timeout_of-timeout.ensures, to_z-of_z c.ranges.due) at c.call.ensures)
    c.tell_answer.ensures.told c.tell_answer.ensures.value
