use Rattle.ob_store.proofs.Cited.{◌∙◌, ◌<◌, None, ap, arith, length, cases_lt, length-set, at_place, nat_tests, parts_of, ProcessesState}
use Rattle.ob_tables.proofs.MemberLaws.{own_within}
use Rattle.ob_store.proofs.PassedLaws.{ending_ended, ending_passed, its_own}
use Rattle.ob_store.proofs.parts.Parts.end_all.Goals as goal

pub loop-thread-init : goal.loop-thread-init
loop-thread-init g c = search arith

pub loop-thread-preserved : goal.loop-thread-preserved
loop-thread-preserved g c =
    let i = c.in-Some.thread in
    let inv = c.loop-thread.invariant in
    let least = c.in-Some.ensures.least in
    let after = ap (λ (l : ProcessesState). l.threads) c.end_one.ensures.threads in
    let lt : i < length c.loop-thread.self.processes.threads = own_within _ c.args.process i least.passes in
    record {
      carries = λ first s ending.
          let p = parts_of c.loop-thread.self in
          let at = ending_passed first p s c.args.process c.loop-thread.from i least.above
          (λ t above below h. absurd (omega (arith, least.least t above (its_own c.args.process _ h), below))) (inv.carries first s ending) in
          ending_ended first p _ s c.args.process i least.passes at (c.end_one.ensures.carries first _ at);
      count = ap (λ l. length l) after ∙ length-set _ i None ∙ inv.count;
      within = omega (arith, lt, inv.count);
      ended = λ t less is. grind (arith, nat_tests, at_place, after, inv.ended t, least.least t, its_own c.args.process);
    }

pub overflow_add-from : goal.overflow_add-from
overflow_add-from g c = omega (arith, c.in-Some.ensures.most)

pub returns-clause-carries : goal.returns-clause-carries
returns-clause-carries g c =
    λ first s ending. ending_passed first _ s _ _ _ c.loop-thread.invariant.within (search (arith, c.in_default.ensures.least.least, its_own))
    (c.loop-thread.invariant.carries first s ending)

pub returns-clause-ended : goal.returns-clause-ended
returns-clause-ended g c = search (arith, cases_lt, c.loop-thread.invariant.ended, c.in_default.ensures.least.least, its_own)
