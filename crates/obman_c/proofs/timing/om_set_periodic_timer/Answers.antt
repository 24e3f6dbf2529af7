use Rattle.std.proofs.Math.Facts.{to_z-of_z}
use Rattle.obman_c.proofs.Told.{tells}
use Rattle.obman_c.proofs.timing.om_set_periodic_timer.Goals as goal

pub returns : goal.returns
returns c = tells (rw (to_z-of_z c.ranges.due, to_z-of_z c.ranges.period) at c.call.ensures) c.told.ensures
