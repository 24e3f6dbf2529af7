use Rattle.std.proofs.Common.{◌≡◌, take}
use Rattle.pin_core.specs.Worlds.{opening_of}
use Rattle.pin_core.specs.Events.{IsSchedule, after_all}
use Rattle.pin_core.proofs.schedule.replay.Given as goal

abbrev pub invariant-loop-i : goal.invariant-loop-i
invariant-loop-i l = IsSchedule (opening_of l.fn.shape) (take l.i l.events)
    × (l.world ≡ after_all (opening_of l.fn.shape) (take l.i l.events))
