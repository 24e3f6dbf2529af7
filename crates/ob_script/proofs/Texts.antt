-- What a capped text is.
use Rattle.ob_script.proofs.Cited.{◌≡◌, ℕ, Bool, List, ◌++◌, arith, length-append, length-take, command_of}
use Rattle.ob_script.specs.PartialLines.{capped, extended_line, command_of_partial_line}

-- what is kept of a line is enough to say what it is
pub command_of_capped : (more : Bool) (line : List ℕ)
    → command_of_partial_line more (capped line) ≡ command_of more line
command_of_capped more line = search (arith, length-take)

-- and to go on
pub more_capped : (text part : List ℕ) → extended_line (capped text) part ≡ capped (text ++ part)
more_capped text part = search (arith, length-append)
