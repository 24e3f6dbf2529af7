use Rattle.std.proofs.Common.{◌≡◌, drop}
use Rattle.pin_core.specs.Holds.{same_id}
use Rattle.ob_manager.specs.Waiting.{has_twice}
use Rattle.ob_manager.proofs.waiting.has_object_twice.Given as goal

abbrev pub invariant-loop-i : goal.invariant-loop-i
invariant-loop-i l = has_twice same_id (drop l.i l.ids) ≡ has_twice same_id l.ids
