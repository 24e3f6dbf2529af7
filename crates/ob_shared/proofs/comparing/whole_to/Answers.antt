use Rattle.std.proofs.Common.{rules}
use Rattle.ob_shared.proofs.Parts.{range_parts}
use Rattle.ob_shared.proofs.comparing.whole_to.Goals as goal

pub returns-then-are_whole : goal.returns-then-are_whole
returns-then-are_whole c k d from to inside = range_parts c.args.journal.now c.args.lanes.now c.args.from
    c.min-to.result (search rules) (search rules) k d from to
