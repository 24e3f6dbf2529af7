use Rattle.std.proofs.Common.{◌≡◌, ◌+◌, All, vec_len}
use Rattle.std.specs.Vec.Iter.{into_iter_len}
use Rattle.ob_shared.specs.Members.{IsNew}
use Rattle.ob_console.proofs.lanes.members.members_of.Given as goal

abbrev pub invariant-loop-script : goal.invariant-loop-script
invariant-loop-script l = record {
  new : All IsNew l.members.items;
  members : vec_len l.members + into_iter_len l.script-iterator ≡ vec_len l.fn.scripts;
  readers : vec_len l.readers ≡ into_iter_len l.script-iterator;
  lanes : l.shared ≡ l.fn.shared + vec_len l.members;
}
