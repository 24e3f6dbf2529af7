-- A name as the key of a hash map: which writes it is hashed by.
use Rattle.std.specs.Prelude.{ℕ, List, [], ◌∷◌, ◌++◌}
use Rattle.std.specs.Hash as fed
use Rattle.ob_name.specs.Names.{Namespace, ObjectName, Global, Session}

-- a number for the namespace
abbrev pub space_number : Namespace → ℕ
space_number Global = 0
space_number (Session session) = session

-- one write of eight bytes for the namespace, and one of the whole text
abbrev pub fed_name : ObjectName → List (List ℕ)
fed_name name = fed.u64 (space_number name.space) ++ name.base ∷ []
