use Rattle.std.proofs.Common.{arith, ◌-◌, length}
use Rattle.ob_name.proofs.Overlapped.{last_decides}
use Rattle.ob_name.proofs.bytes.same_bytes.Goals as goal

pub returns-then-same_four : goal.returns-then-same_four
returns-then-same_four c =
    search (arith, last_decides c.args.text.now c.args.other.now 4 (length c.args.text.now - 4) 4)
