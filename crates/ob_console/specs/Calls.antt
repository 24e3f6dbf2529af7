-- What a line of a lane asks for, as its member does it.
use Rattle.std.specs.Prelude.{ℕ, List}
use Rattle.ob_script.specs.Commands.{call_in}
use Rattle.ob_shared.specs.declared.act.Act.{Act}
use Rattle.ob_shared.specs.declared.act.Act.TheVariants as does
use Rattle.ob_console.specs.declared.lanes.line.LaneCommand.{LaneCommand}
use Rattle.ob_console.specs.declared.lanes.line.LaneCommand.TheVariants.{Ask, Pin, Unpin, ShowCard, Block}

-- what a member is to do, by what was read and the handles that stand beside it
abbrev pub request_in : List ℕ → LaneCommand → Act
request_in handles (Ask ask) = does.Ask (call_in handles ask)
request_in handles (Pin id) = does.Pin id
request_in handles (Unpin id) = does.Unpin id
request_in handles (ShowCard id) = does.ShowCard id
request_in handles Block = does.Block
