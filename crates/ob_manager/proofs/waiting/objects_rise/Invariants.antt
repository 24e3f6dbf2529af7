use Rattle.std.proofs.Common.{◌≡◌, drop, false, length}
use Rattle.ob_manager.specs.Rising.{place_of_handle, rise}
use Rattle.ob_manager.specs.Waiting.{objects_of}
use Rattle.ob_manager.proofs.Waited.{objects_from}
use Rattle.ob_manager.proofs.waiting.objects_rise.Given as goal

abbrev pub invariant-loop-handle : goal.invariant-loop-handle
invariant-loop-handle g l = record {
  many : length l.ids.items ≡ l.handle-index;
  up : rise place_of_handle l.last (drop l.handle-index l.handles) ≡ rise place_of_handle 0 l.handles;
  left : objects_from l.store.state l.process l.ids.items false (drop l.handle-index l.handles)
      ≡ objects_of l.store.state l.process l.handles;
}
