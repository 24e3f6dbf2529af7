-- Tables within their limits pass the tests of what is read.
use Rattle.std.proofs.Common.{arith, ◌≡◌, ℕ, suc, ◌≤◌, true, List, [], ◌∷◌, length, Option, refl}
use Rattle.std.proofs.lemmas.Bool.{le-leb}
use Rattle.std.specs.List.{list_all}
use Rattle.ob_tables.specs.declared.entry.Entry.{Entry}
use Rattle.ob_tables.specs.Spelling.{are_bounded, is_short}
use Rattle.ob_tables.specs.Tables.{IsBounded, table_of}

all-short : (handles : ℕ) (tables : List (List (Option Entry)))
    → ((process : ℕ) → length (table_of tables process) ≤ handles) → list_all (is_short handles) tables ≡ true
all-short handles [] short = refl
all-short handles (table ∷ tables) short = grind (arith, le-leb, short 0, all-short handles tables (λ process. short (suc process)))

pub bounded : (processes handles : ℕ) (tables : List (List (Option Entry))) → IsBounded processes handles tables
    → are_bounded (length tables) handles tables ≡ true
bounded processes handles tables is = search (arith, all-short)
