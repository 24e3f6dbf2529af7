use Rattle.std.proofs.Common.{◌≡◌, ◌<◌, ◌≤◌, ℕ, [], length, take, vec_len, vec_capacity}
use Rattle.ob_shared.specs.declared.gate.Pass.TheVariants.{Go}
use Rattle.ob_shared.specs.Members.{AreTold, Goes, between}
use Rattle.ob_shared.proofs.member.run.Given as goal

abbrev pub invariant-loop-place : goal.invariant-loop-place
invariant-loop-place g l = (l.member.script ≡ l.fn.member.script) × (l.member.lane.number ≡ l.fn.member.lane.number)
    × (vec_len l.member.seen ≡ l.place) × (length l.member.script.items ≤ vec_capacity l.member.seen)
    × ((k : ℕ) → k < l.place → g.G.Passage.may_answer l.gate l.fn.member.lane.number k Go)
    × AreTold (g.G.Passage.is_told l.gate l.fn.member.lane.number) l.member.seen.items
    × Goes (take l.place l.fn.member.script.items) l.member.seen.items (between l.fn.member.lane [] l.fn.member.reader)
    (between l.member.lane l.waits.items l.member.reader)
