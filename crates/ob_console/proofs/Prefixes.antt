-- A line with an @ and without a space.
use Rattle.ob_console.proofs.Cited.{arith, ◌≡◌, ℕ, Bool, Option, []}
use Rattle.ob_console.specs.Lines.{Bad, prefixed}

pub nothing_behind : (more : Bool) (number : Option ℕ) → prefixed more number [] ≡ Bad
nothing_behind more number = search arith
