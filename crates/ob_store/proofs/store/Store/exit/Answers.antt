use Rattle.ob_store.proofs.Cited.{arith, subst, sym, IsPopulated, parts_of, state_of, State}
use Rattle.ob_store.proofs.PassedLaws.{threads_tables}
use Rattle.ob_store.proofs.PlacedLaws.{live_within}
use Rattle.ob_store.proofs.PopulatedLaws.{populated_exited}
use Rattle.ob_store.proofs.UnderWayLaws.{ending_begins}
use Rattle.ob_store.proofs.store.Store.exit.Goals as goal

pub end_process-requires : goal.end_process-requires
end_process-requires g c =
    let begun = c.end_all.ensures.carries _ _ (ending_begins _ c.clear.new.self c.self.invariant c.kept.ensures) in
    let live = rw (← c.self.view_is) at c.requires.live in
    search (arith, begun, begun.under_way.sound, begun.under_way.rest, threads_tables, live_within, c.self.invariant.sound.processes_kept.tabled, live)

pub settle-requires : goal.settle-requires
settle-requires g c =
    let p = parts_of c.self.inside.parts in
    let ending = c.end_process.ensures.carries p.objects.keeper _ (c.end_all.ensures.carries p.objects.keeper _
    (ending_begins p c.clear.new.self c.self.invariant c.kept.ensures)) in
    record {
      sound = ending.under_way.sound;
      populated = subst (λ (x : State). IsPopulated x.processes x.threads) (sym ending.under_way.rest)
          (populated_exited (state_of p) c.args.process c.self.invariant.populated);
      enough = ending.enough;
    }

pub returns : goal.returns
returns g c =
    let way = (c.end_process.ensures.carries _ _ (c.end_all.ensures.carries _ _
    (ending_begins _ c.clear.new.self c.self.invariant c.kept.ensures))).under_way in
    rw (← c.self.view_is) (search (arith, c.settle.ensures.state, way, way.keeper, c.settle.ensures.keeper))
