use Rattle.std.proofs.Common.{arith, ◌-◌, length}
use Rattle.ob_name.proofs.Naming.{last_bytes}
use Rattle.ob_name.proofs.name.are_base_bytes.Goals as goal

pub returns-then-is_four : goal.returns-then-is_four
returns-then-is_four c = search (arith, last_bytes c.args.base.now 4 (length c.args.base.now - 4) 4)
