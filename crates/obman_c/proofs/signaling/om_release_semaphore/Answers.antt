use Rattle.std.proofs.Math.Facts.{to_z-of_z}
use Rattle.obman_c.proofs.Told.{tells_as}
use Rattle.obman_c.proofs.signaling.om_release_semaphore.Goals as goal

pub returns : goal.returns
returns c =
    tells_as (rw (to_z-of_z c.ranges.count) at c.call.ensures) c.tell_count.ensures.told c.tell_count.ensures.value
