-- What an arena is, once a `&mut` to one of its bodies has ended.
use Rattle.std.specs.Prelude.{ℕ}
use Rattle.std.specs.Borrow.{Fml, RattleType, MutBor, Lends}
use Rattle.ob_arena.specs.Slots.{Slots, with_body}
use Rattle.ob_arena.specs.contracts.arena.Arena.{the_row}

-- the slot has the body that was written last
abbrev pub lends_body : (B : RattleType) → MutBor (Slots B.Denot) → ℕ → MutBor B.Denot → Fml
lends_body B arena slot r = Lends (the_row B) B arena r (λ body. with_body arena.now slot body)
