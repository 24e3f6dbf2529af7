use Rattle.std.proofs.Common.{◌≡◌, drop}
use Rattle.ob_manager.specs.Waiting.{have_room}
use Rattle.ob_manager.proofs.waiting.each_has_room.Given as goal

abbrev pub invariant-loop-id : goal.invariant-loop-id
invariant-loop-id g l = have_room l.store.state l.thread (drop l.id-index l.ids)
    ≡ have_room l.store.state l.thread l.ids
