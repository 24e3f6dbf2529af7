use Rattle.std.proofs.Common.{◌≡◌, drop}
use Rattle.ob_manager.specs.Waiting.{has_twice, same_handle}
use Rattle.ob_manager.proofs.waiting.has_handle_twice.Given as goal

abbrev pub invariant-loop-i : goal.invariant-loop-i
invariant-loop-i l = has_twice same_handle (drop l.i l.handles) ≡ has_twice same_handle l.handles
