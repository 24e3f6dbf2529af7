use Rattle.std.proofs.Common.{below_more, rules}
use Rattle.ob_shared.proofs.Going.{goes_on, run_stopped, run_whole, told_more}
use Rattle.ob_shared.proofs.member.run.Goals as goal

pub loop-place-preserved : goal.loop-place-preserved
loop-place-preserved g c = (
  search rules,
  search rules,
  search rules,
  search rules,
  below_more _ _ c.loop-place.invariant.4 (search rules),
  search (rules, told_more),
  search (rules, goes_on),
)

pub returns-then-not-passes : goal.returns-then-not-passes
returns-then-not-passes g c = record {
  waits = c.loop-place.waits.items;
  script = search rules;
  number = search rules;
  run = search (rules, run_stopped);
}

pub returns : goal.returns
returns g c = record {
  waits = c.loop-place.waits.items;
  script = search rules;
  number = search rules;
  run = run_whole _ _ _ c.loop-place.place _ _ _ (search rules) c.loop-place.invariant.4 c.loop-place.invariant.5
      c.loop-place.invariant.6;
}
