-- The beginning of a line whose end has not come.
use Rattle.std.specs.Prelude.{ℕ, nat_le, Bool, true, false, List, ◌++◌, Option, Some, None, if◌then◌else◌, length}
use Rattle.ob_script.specs.Commands.{Command, Bad}
use Rattle.ob_script.specs.Grammar.{command_of}

-- what is kept of a text: all of it, unless it has more bytes than a line that is none too long with its carriage
-- return
abbrev pub capped : List ℕ → Option (List ℕ)
capped text = if nat_le (length text) 4097 then Some text else None

-- what is kept after more has come
abbrev pub extended_line : Option (List ℕ) → List ℕ → Option (List ℕ)
extended_line None part = None
extended_line (Some bytes) part = capped (bytes ++ part)

abbrev pub partial_line_of : Bool → List ℕ → Option (List ℕ)
partial_line_of true bytes = None
partial_line_of false bytes = Some bytes

-- what the line is
abbrev pub command_of_partial_line : Bool → Option (List ℕ) → Command
command_of_partial_line more None = Bad
command_of_partial_line more (Some line) = command_of more line
