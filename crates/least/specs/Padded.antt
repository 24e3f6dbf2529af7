-- A list of which only the beginning is written: behind that stands the same at each place.
use Rattle.std.specs.Prelude.{ℕ, ◌-◌, List, ◌++◌, length, replicate}

-- a list made longer, unless it is so long already
abbrev pub padded : {A : Type 0} → A → ℕ → List A → List A
padded none len xs = xs ++ replicate (len - length xs) none
