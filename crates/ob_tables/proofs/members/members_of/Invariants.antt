use Rattle.std.proofs.Common.{take}
use Rattle.ob_tables.specs.Members.{AreMembers}
use Rattle.ob_tables.proofs.members.members_of.Given as goal

abbrev pub invariant-loop-thread : goal.invariant-loop-thread
invariant-loop-thread l = AreMembers (take l.thread l.threads) l.members
