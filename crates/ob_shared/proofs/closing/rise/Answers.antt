use Rattle.std.proofs.Common.{rules}
use Rattle.ob_shared.proofs.Numbers.{risen_more}
use Rattle.ob_shared.proofs.closing.rise.Goals as goal

pub loop-lane-preserved : goal.loop-lane-preserved
loop-lane-preserved c =
    let more = risen_more c.lane-item.result c.loop-lane.least c.args.lanes.now c.loop-lane.lane-index in
    search (rules, more)
