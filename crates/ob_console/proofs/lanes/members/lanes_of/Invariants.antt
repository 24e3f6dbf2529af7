use Rattle.std.proofs.Common.{◌+◌, ◌≤◌, vec_capacity, vec_len}
use Rattle.std.specs.Vec.Iter.{into_iter_len}
use Rattle.ob_console.proofs.lanes.members.lanes_of.Given as goal

abbrev pub invariant-loop-member : goal.invariant-loop-member
invariant-loop-member l = vec_len l.lanes + into_iter_len l.member-iterator ≤ vec_capacity l.lanes
