-- A verb without words behind it is bad, whichever it is.
use Rattle.ob_script.proofs.Cited.{arith, ◌≡◌, ℕ, List, [], ◌∷◌, Bool, if◌then◌else◌, Command, Bad, command_of_words}

skips : (b : Bool) (rest : Command) → rest ≡ Bad → (if b then Bad else rest) ≡ Bad
skips b rest bad = search arith

pub lone_is_bad : (more : Bool) (word : List ℕ) → command_of_words more (word ∷ []) ≡ Bad
lone_is_bad more word = search (skips) depth 41
