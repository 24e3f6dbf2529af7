use Rattle.std.proofs.Common.{arith}
use Rattle.ob_tables.proofs.MemberLaws.{member_added}
use Rattle.ob_tables.proofs.processes.Processes.add_thread.Goals as goal

pub invariant_of-self-2 : goal.invariant_of-self-2
invariant_of-self-2 c = search (arith, member_added)
