-- What a line asks for.
use Rattle.std.specs.Prelude.{◌≡◌, ℕ, List, take}
use Rattle.std.specs.Borrow.{Bor}
use Rattle.pin_core.specs.declared.id.Id.{Id}
use Rattle.ob_manager.specs.Calls.{Call, with_parts}
use Rattle.ob_manager.specs.declared.call.CallOf.{CallOf}
use Rattle.ob_manager.specs.declared.call.CallOf.TheVariants.{WaitFor}
use Rattle.ob_manager.specs.declared.making.Make.{Make}
use Rattle.ob_manager.specs.Makings.{making_of}
use Rattle.ob_script.specs.declared.command.Command.{Command as Read}
use Rattle.ob_script.specs.declared.command.Command.TheVariants as code

pub data Command : Type 0 where
  Nothing : Command  -- an empty line or a comment, for which nothing is printed
  Bad : Command  -- a line outside the grammar
  ListNames : Command  -- the names of objects are asked for
  Asks : Call → Command  -- a call
  Pin : Id → Command  -- one copy more, for the reader
  Unpin : Id → Command  -- one copy less
  ShowCard : Id → Command  -- what the object of a held Id was created as

-- which call it is, with its name as a list, and with the handles that stand beside it
abbrev pub call_in : List ℕ → CallOf Make (Bor (List ℕ)) (List ℕ) → Call
call_in handles = with_parts making_of (λ text. text.now) (λ _. handles)

abbrev pub command_in : List ℕ → Read → Command
command_in handles code.Nothing = Nothing
command_in handles code.Bad = Bad
command_in handles code.ListNames = ListNames
command_in handles (code.Ask ask) = Asks (call_in handles ask)
command_in handles (code.Pin id) = Pin id
command_in handles (code.Unpin id) = Unpin id
command_in handles (code.ShowCard id) = ShowCard id

-- of the handles of a wait the first 65: a wait for more than 64 is refused, whichever they are
abbrev pub shortened_call : Call → Call
shortened_call (WaitFor thread mode timeout handles) = WaitFor thread mode timeout (take 65 handles)
shortened_call call = call

abbrev pub shortened : Command → Command
shortened (Asks call) = Asks (shortened_call call)
shortened command = command

-- what was read is this command, whichever handles stand beside it: for verbs that have none
abbrev pub IsRead : Read → Command → Type 0
IsRead read command = (handles : List ℕ) → command_in handles read ≡ shortened command
