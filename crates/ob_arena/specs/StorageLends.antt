-- What a storage is, once a `&mut` to one of its bodies has ended.
use Rattle.std.specs.Prelude.{ℕ, List, slice_set, Option, Some}
use Rattle.std.specs.Borrow.{Fml, RattleType, MutBor, Lends}
use Rattle.ob_arena.specs.declared.storage.Storage.{Storage}
use Rattle.ob_arena.specs.contracts.storage.Storage.{the_row}

abbrev pub with_slots : {B : Type 0} → Storage B → List (Option B) → Storage B
with_slots storage ss = record { mark = storage.mark; front = storage.front; slots = ss }

-- the slot has the body that was written last
abbrev pub lends_slot : (B : RattleType) → MutBor (Storage B.Denot) → ℕ → MutBor B.Denot → Fml
lends_slot B storage at r = Lends (the_row B) B storage r
    (λ body. with_slots storage.now (slice_set storage.now.slots at (Some body)))
