use Rattle.std.proofs.Common.{arith}
use Rattle.ob_waits.proofs.PlaceLaws.{spreads_all, spreads_empty, spreads_one}
use Rattle.ob_waits.proofs.number_map.spread.Goals as goal

pub loop-entry-preserved : goal.loop-entry-preserved
loop-entry-preserved c = grind (arith, spreads_empty, spreads_one)

pub returns : goal.returns
returns c = spreads_all c.args.mask c.args.from.now c.loop-entry.places.items c.loop-entry.entry-index (let past =
    c.loop-entry-test.false in omega arith) c.loop-entry.invariant.spread
