use Rattle.std.proofs.Common.{arith}
use Rattle.ob_console.proofs.Advancing.{part_advances}
use Rattle.ob_console.proofs.Feeding.{fed_line, fed_rest, cut_short, rest_within, behind_shorter}
use Rattle.ob_console.proofs.console.Console.feed.Goals as goal

pub returns-in-Err-clause-err : goal.returns-in-Err-clause-err
returns-in-Err-clause-err g c =
    cut_short _ c.loop-end.invariant.fed c.in-Some.ensures.within (search arith) c.in-Err.ensures.advances.2

pub loop-end-preserved : goal.loop-end-preserved
loop-end-preserved g c =
    let one = c.in-Ok.ensures.advances in
    record {
      fed = rw c.in-Some.ensures.behind
          (fed_line one.0 c.loop-end.invariant.fed c.in-Some.ensures.within (search arith) one.2);
      lines = rw c.in-Some.ensures.behind (omega (arith, behind_shorter c.loop-end.rest.now c.in-Some.ensures.within));
      spends = search arith;
    }

pub returns-clause-ok : goal.returns-clause-ok
returns-clause-ok g c = search (arith, fed_rest, part_advances, rest_within, c.in_default.ensures.none, ← c.self.view_is)
