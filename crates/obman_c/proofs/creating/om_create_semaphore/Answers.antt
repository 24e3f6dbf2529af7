use Rattle.std.proofs.Math.Facts.{to_z-of_z}
use Rattle.obman_c.proofs.Told.{tells_as}
use Rattle.obman_c.proofs.creating.om_create_semaphore.Goals as goal

pub returns : goal.returns
returns c = tells_as (rw (c.make_of-make.ensures, to_z-of_z c.ranges.initial, to_z-of_z c.ranges.max) at c.call.ensures)
    c.tell_opening.ensures.told c.tell_opening.ensures.value
