use Rattle.ob_waits.proofs.Room.{rooms_at_more}
use Rattle.ob_store.proofs.UnderWayLaws.{way_kept, way_state}
use Rattle.ob_store.proofs.parts.Parts.settle_after.Goals as goal

pub settle_after-requires-clause-room : goal.settle_after-requires-clause-room
settle_after-requires-clause-room g c =
    let s = c.args.self.now in
    rooms_at_more _ _ _ _ s.limits.in_range.max_recursion_in_range.1 c.requires.sound.room

pub returns-clause-kept : goal.returns-clause-kept
returns-clause-kept g c =
    let e = c.settle_after.ensures in
    way_kept _ _ _ c.requires.sound e.value e.limit e.clock e.rest c.requires.populated (e.room _ c.requires.sound.room) e.settled

pub returns-clause-state : goal.returns-clause-state
returns-clause-state g c = let e = c.settle_after.ensures in way_state _ _ _ c.requires.sound e.value e.limit e.clock e.rest
