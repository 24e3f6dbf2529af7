-- A new table is no longer than the others.
use Rattle.std.proofs.Common.{◌≡◌, ℕ, ◌≤◌, List, [], ◌∷◌, ◌++◌, length, Option, arith, set}
use Rattle.std.proofs.lemmas.List.{length-append, length-set}
use Rattle.ob_tables.specs.declared.entry.Entry.{Entry}
use Rattle.ob_tables.specs.Tables.{IsBounded, new_table}
use Rattle.ob_tables.proofs.Inheriting.{length_inherited}
use Rattle.ob_tables.proofs.LimitLaws.{short_pushed, short_set}

module _ (processes handles : ℕ) (ts : List (List (Option Entry))) (t : List (Option Entry)) (from : Option ℕ)
    (is : t ≡ new_table ts from) (bounded : IsBounded processes handles ts) where
  pub bounded_set : (k : ℕ) → IsBounded processes handles (set ts k t)
  bounded_set k = search (arith, length_inherited, length-set, short_set)

  pub bounded_push : length ts ≤ processes → IsBounded processes handles (ts ++ t ∷ [])
  bounded_push few = search (arith, length_inherited, length-append, short_pushed)
