-- An entry stays at its value where another comes.
use Rattle.std.proofs.Common.{◌≡◌, ℕ, List, [], ◌∷◌, Option, Some, None, arith, get_or}
use Rattle.std.proofs.lemmas.Bool.Decides.{nat_tests}
use Rattle.ob_codec.proofs.AtPlace.{at_place}
use Rattle.ob_tables.specs.declared.entry.Entry.{Entry}
use Rattle.ob_tables.specs.Table.{entry_at, with_entry}
use Rattle.ob_tables.specs.Tables.{table_of, with_entry_of}

stays_at : (t : List (Option Entry)) (f : Entry) (k : ℕ) (e : Entry) → get_or t k None ≡ Some e
    → get_or (with_entry t f) k None ≡ Some e
stays_at [] f k e h = grind arith
stays_at (x ∷ t) f k e h = grind (arith, stays_at t f)

pub entry_stays : (ts : List (List (Option Entry))) (p : ℕ) (f : Entry) (q value : ℕ) (e : Entry)
    → entry_at (table_of ts q) value ≡ Some e → entry_at (table_of (with_entry_of ts p f) q) value ≡ Some e
entry_stays ts p f q value e h = grind (arith, nat_tests, at_place, stays_at)
