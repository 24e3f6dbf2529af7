use Rattle.ob_store.proofs.Cited.{◌∙◌, sym, Some, parts_of, state_of, arith}
use Rattle.ob_store.proofs.PlacedLaws.{thread_tabled}
use Rattle.ob_store.proofs.PopulatedLaws.{populated_thread_ended}
use Rattle.ob_store.proofs.UnderWayLaws.{ending_begins}
use Rattle.ob_store.proofs.store.Store.end_thread.Goals as goal

pub leave_process-requires : goal.leave_process-requires
leave_process-requires g c =
    let begun = c.end_one.ensures.carries _ _ (ending_begins _ c.clear.new.self c.self.invariant c.kept.ensures) in
    let live = rw (← c.self.view_is) at c.requires.live in
    let tabled = thread_tabled _ _ _ _ (Some c.args.process) c.self.invariant.sound.processes_kept (sym live) in
    search (arith, begun.under_way.rest, begun.under_way.sound, tabled)

pub settle-requires : goal.settle-requires
settle-requires g c =
    let ending = c.leave_process.ensures.carries _ _ (c.end_one.ensures.carries _ _ (ending_begins _ c.clear.new.self c.self.invariant c.kept.ensures)) in
    let populated = populated_thread_ended (state_of (parts_of c.self.inside.parts)) c.args.process c.args.thread (rw (← c.self.view_is) at c.requires.live)
    c.self.invariant.populated in
    search (arith, ending.under_way.sound, ending.enough, ending.under_way.rest, populated)

pub returns : goal.returns
returns g c =
    let way = (c.leave_process.ensures.carries _ _ (c.end_one.ensures.carries _ _
    (ending_begins _ c.clear.new.self c.self.invariant c.kept.ensures))).under_way in
    rw (← c.self.view_is) (record { state = c.settle.ensures.state _ _ way; keeper = c.settle.ensures.keeper ∙ way.keeper })
