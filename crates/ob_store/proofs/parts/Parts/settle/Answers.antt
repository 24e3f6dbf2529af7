use Rattle.ob_store.proofs.UnderWayLaws.{way_kept, way_state}
use Rattle.ob_store.proofs.parts.Parts.settle.Goals as goal

pub returns-then-is_whole-clause-kept : goal.returns-then-is_whole-clause-kept
returns-then-is_whole-clause-kept g c =
    let e = c.settle_after_each.ensures in
    way_kept _ _ _ c.requires.sound e.value e.limit e.clock e.rest c.requires.populated (e.room _ c.requires.sound.room) e.settled

pub returns-then-is_whole-clause-state : goal.returns-then-is_whole-clause-state
returns-then-is_whole-clause-state g c =
    let e = c.settle_after_each.ensures in
    way_state _ _ _ c.requires.sound e.value e.limit e.clock e.rest

pub returns-else-is_whole-clause-kept : goal.returns-else-is_whole-clause-kept
returns-else-is_whole-clause-kept g c =
    let e = c.settle.ensures in
    way_kept _ _ _ c.requires.sound e.value e.limit e.clock e.rest c.requires.populated (e.room _ c.requires.sound.room) e.settled

pub returns-else-is_whole-clause-state : goal.returns-else-is_whole-clause-state
returns-else-is_whole-clause-state g c = let e = c.settle.ensures in way_state _ _ _ c.requires.sound e.value e.limit e.clock e.rest
