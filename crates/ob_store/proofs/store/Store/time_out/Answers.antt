use Rattle.ob_store.proofs.Cited.{◌∙◌, arith, settled}
use Rattle.ob_store.proofs.TimeoutLaws.{fewer_step, time_out_last, time_out_step, undue_step}
use Rattle.ob_store.proofs.store.Store.time_out.Goals as goal

pub loop-wait-smaller : goal.loop-wait-smaller
loop-wait-smaller g c =
    let is = rw c.in-Some.ensures.same at c.end_wait_at.ensures.state in
    search (arith, is, fewer_step, c.loop-wait.invariant.kept.named, c.loop-wait.invariant.kept.quiet.settled, c.in-Some.ensures.found)

pub loop-wait-preserved : goal.loop-wait-preserved
loop-wait-preserved g c =
    let s = c.loop-wait.self.state in
    let is = rw c.in-Some.ensures.same at c.end_wait_at.ensures.state in
    let named = c.loop-wait.invariant.kept.named in
    let quiet = c.loop-wait.invariant.kept.quiet.settled in
    record {
      kept = c.kept-in-Some.ensures;
      same = rw is (time_out_step s c.args.now c.in-Some.wait named quiet c.in-Some.ensures.found ∙ c.loop-wait.invariant.same);
      keeper = (rw c.in-Some.ensures.same at c.end_wait_at.ensures.keeper) ∙ c.loop-wait.invariant.keeper;
      undue = rw is (undue_step s c.args.now c.in-Some.wait named quiet c.in-Some.ensures.found c.loop-wait.invariant.undue);
      clock = rw is c.loop-wait.invariant.clock;
    }

pub returns-clause-state : goal.returns-clause-state
returns-clause-state g c =
    rw (c.pass_to.ensures, c.in_default.ensures.same, time_out_last _ _ c.loop-wait.invariant.kept.still c.in_default.ensures.none) c.loop-wait.invariant.same
