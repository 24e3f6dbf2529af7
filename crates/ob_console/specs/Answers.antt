-- What is printed for the acts of members.
use Rattle.std.specs.Prelude.{Option, Some, None}
use Rattle.ob_shared.specs.declared.act.Act.{Act}
use Rattle.ob_shared.specs.declared.act.Act.TheVariants.{Pin, Unpin}
use Rattle.ob_shared.specs.declared.act.Seen.{Seen}
use Rattle.ob_shared.specs.declared.act.Seen.TheVariants as sees
use Rattle.ob_script.specs.declared.answer.Answer.{Answer}
use Rattle.ob_script.specs.declared.answer.Answer.TheVariants.{Replied, NoWait, Pinned, Unpinned, Shown}

-- what an act is answered with is printed as a line of a script without lanes prints it; a member that was stopped
-- prints nothing
abbrev pub answer_of : Act → Seen → Option Answer
answer_of act (sees.Reply reply) = Some (Replied reply)
answer_of act (sees.Blocked (Some reply)) = Some (Replied reply)
answer_of act (sees.Blocked None) = Some NoWait
answer_of act (sees.Shown card) = Some (Shown card)
answer_of (Pin id) (sees.Pinned answer) = Some (Pinned id answer)
answer_of (Unpin id) (sees.Unpinned done) = Some (Unpinned id done)
answer_of act seen = None
