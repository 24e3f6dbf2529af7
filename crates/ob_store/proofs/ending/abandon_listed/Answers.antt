use Rattle.std.proofs.Common.{◌∙◌}
use Rattle.ob_store.proofs.ending.abandon_listed.Goals as goal

pub loop-preserved : goal.loop-preserved
loop-preserved g c = record {
  seen = c.abandon_at.ensures.seen ∙ c.loop.invariant.seen;
  rest = c.abandon_at.ensures.rest ∙ c.loop.invariant.rest;
  enough = λ waits enough. c.abandon_at.ensures.enough waits (c.loop.invariant.enough waits enough);
}
