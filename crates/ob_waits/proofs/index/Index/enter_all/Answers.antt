use Rattle.std.proofs.Common.{below_more, arith}
use Rattle.ob_waits.proofs.index.Index.enter_all.Goals as goal

pub returns-in_err-over-clause-keeps : goal.returns-in_err-over-clause-keeps
returns-in_err-over-clause-keeps c = record {
  each = λ s. record {
    each = λ k pending i. (c.in_err-over.ensures.keeps.each s).each k pending
        ((c.loop-id.invariant.keeps.each s).each k pending i);
  };
}

pub loop-id-preserved : goal.loop-id-preserved
loop-id-preserved c = record {
  lists = c.in_ok-over.ensures.ordered;
  keeps = record {
    each = λ s. record {
      each = λ k pending i. (c.in_ok-over.ensures.keeps.each s).each k pending
          ((c.loop-id.invariant.keeps.each s).each k pending i);
    };
  };
  entered = below_more _ _ (search (arith, c.in_ok-over.ensures.stays, c.loop-id.invariant.entered))
      c.in_ok-over.ensures.entered;
  over = c.in_ok-over.ensures.over;
}
