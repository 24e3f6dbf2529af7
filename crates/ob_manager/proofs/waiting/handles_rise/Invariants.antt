use Rattle.std.proofs.Common.{◌≡◌, drop}
use Rattle.ob_manager.specs.Rising.{place_of_handle, rise}
use Rattle.ob_manager.proofs.waiting.handles_rise.Given as goal

abbrev pub invariant-loop-handle : goal.invariant-loop-handle
invariant-loop-handle l = rise place_of_handle l.last (drop l.handle-index l.handles) ≡ rise place_of_handle 0 l.handles
