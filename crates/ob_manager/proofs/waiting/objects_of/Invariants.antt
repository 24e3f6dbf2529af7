use Rattle.std.proofs.Common.{◌≡◌, drop, length}
use Rattle.ob_manager.specs.Waiting.{objects_of}
use Rattle.ob_manager.proofs.Waited.{objects_from}
use Rattle.ob_manager.proofs.waiting.objects_of.Given as goal

abbrev pub invariant-loop-handle : goal.invariant-loop-handle
invariant-loop-handle g l = record {
  many : length l.ids.items ≡ l.handle-index;
  left : objects_from l.store.state l.process l.ids.items l.lacks (drop l.handle-index l.handles)
      ≡ objects_of l.store.state l.process l.handles;
}
