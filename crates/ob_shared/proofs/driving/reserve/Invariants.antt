use Rattle.std.proofs.Common.{◌≡◌, ◌<◌, ℕ, get_or, length}
use Rattle.ob_shared.specs.declared.member.Member.{Member}
use Rattle.ob_shared.specs.Members.{IsReady, IsSame}
use Rattle.ob_shared.proofs.driving.reserve.Given as goal

-- the first members have room, and all are as they were
abbrev pub invariant-loop-i : goal.invariant-loop-i
invariant-loop-i l = record {
  length_is : length l.members ≡ length l.fn.members;
  same : (k : ℕ) (d : Member) → k < length l.fn.members → IsSame (get_or l.fn.members k d) (get_or l.members k d);
  ready : (k : ℕ) (d : Member) → k < l.i → k < length l.fn.members → IsReady (get_or l.members k d);
}
