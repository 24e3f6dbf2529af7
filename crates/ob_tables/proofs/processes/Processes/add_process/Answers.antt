use Rattle.std.proofs.Common.{arith}
use Rattle.ob_tables.proofs.MemberLaws.{member_added, member_undone}
use Rattle.ob_tables.proofs.processes.Processes.add_process.Goals as goal

pub invariant_of-self-then-is_err : goal.invariant_of-self-then-is_err
invariant_of-self-then-is_err c = search (arith, member_undone)

pub invariant_of-self-2 : goal.invariant_of-self-2
invariant_of-self-2 c = search (arith, member_added)
