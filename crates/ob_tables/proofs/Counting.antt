-- How the number of entries, and of those that name an object, changes with each change of the tables.
use Rattle.std.proofs.lemmas.Bool.Decides.{nat_tests}
use Rattle.ob_codec.proofs.AtPlace.{at_place}
use Rattle.std.proofs.lemmas.Grind.{common_steps}
use Rattle.std.proofs.Common.{◌≡◌, ℕ, ◌+◌, ◌<◌, ◌≤◌, List, [], ◌∷◌, length, Option, Some, None, refl, arith, get_or, set, map, Bool, true, false, cond, ltb}
use Rattle.std.specs.Prelude.{count_by, sum_by}
use Rattle.std.proofs.lemmas.List.Sums.{sum_by-cons, sum_by-append, sum_by-set, get_or-le-sum_by}
use Rattle.pin_core.specs.Holds.{same_id}
pub use Rattle.pin_core.proofs.Moves.{same_id-same}
use Rattle.ob_rights.specs.declared.handle_flags.HandleFlags.{HandleFlags}
use Rattle.pin_core.specs.declared.id.Id.{Id}
use Rattle.ob_tables.specs.declared.entry.Entry.{Entry}
use Rattle.ob_tables.specs.Table.{place_of, entry_at, with_entry, without_entry, with_flags}
use Rattle.ob_tables.specs.Inheritance.{before, trimmed, inheritable, inherited}
use Rattle.ob_tables.specs.Counts.{names, handles_in, handles_among}
use Rattle.ob_tables.specs.Tables.{new_table, table_of, with_entry_of, without_entry_of, with_flags_of, with_table, without_entries}

-- 1 for an entry of the object, and else 0
abbrev pub one_of : Id → Entry → ℕ
one_of id e = cond (same_id e.id id) 1 0

pub one_id : (a b : Id) → same_id a b ≡ true → a ≡ b
one_id a b h = search arith

-- what is not None stands within the list
pub some_within : {A : Type 0} (t : List (Option A)) (k : ℕ) (e : A) → get_or t k None ≡ Some e → k < length t
some_within t k e h = grind (arith, nat_tests, at_place)

-- 1 for a place that passes a test, and else 0
abbrev pub weight : (Option Entry → Bool) → Option Entry → ℕ
weight p x = cond (p x) 1 0

-- what is counted of the entries of all tables
abbrev pub counted : (Option Entry → Bool) → List (List (Option Entry)) → ℕ
counted p ts = sum_by (count_by p) ts

-- where a value has an entry, it is from 4 on, and the entry stands at its place
pub record IsFound (t : List (Option Entry)) (value : ℕ) (e : Entry) : Type 0 where
  pub high : ltb value 4 ≡ false
  pub within : place_of value < length t
  pub held_there : get_or t (place_of value) None ≡ Some e

pub found_place : (t : List (Option Entry)) (value : ℕ) (e : Entry) → entry_at t value ≡ Some e → IsFound t value e
found_place t value e is = grind (arith, at_place)

-- the table without an entry, where it was
pub without_found : (t : List (Option Entry)) (value : ℕ) (e : Entry) → entry_at t value ≡ Some e
    → without_entry t value ≡ set t (place_of value) None
without_found t value e is = search arith

-- a process that has an entry has a table
pub found_table : (ts : List (List (Option Entry))) (p value : ℕ) (e : Entry) → entry_at (table_of ts p) value ≡ Some e
    → p < length ts
found_table ts p value e is = grind (arith, at_place)

-- what is counted of the entries of one table, and of all
module _ (p : Option Entry → Bool) (none : p None ≡ false) where
  weight_none : weight p None ≡ 0
  weight_none = search arith

  -- an entry at the least free place counts once
  pub count_by-with_entry : (t : List (Option Entry)) (e : Entry)
      → count_by p (with_entry t e) ≡ count_by p t + weight p (Some e)
  count_by-with_entry [] e = refl
  count_by-with_entry (None ∷ t) e = search (arith, weight_none, sum_by-cons)
  count_by-with_entry (Some x ∷ t) e = search (arith, sum_by-cons, count_by-with_entry t e)

  -- flags are not looked at
  pub count_by-with_flags : ((e : Entry) (flags : HandleFlags) → p (Some (record e { flags = flags })) ≡ p (Some e))
      → (t : List (Option Entry)) (value : ℕ) (e : Entry) (flags : HandleFlags) → entry_at t value ≡ Some e
      → count_by p (with_flags t value flags) ≡ count_by p t
  count_by-with_flags same t value e flags is = search (arith, found_place, sum_by-set)

  pub counted-with_entry : (ts : List (List (Option Entry))) (k : ℕ) (e : Entry) → k < length ts
      → counted p (with_entry_of ts k e) ≡ counted p ts + weight p (Some e)
  counted-with_entry ts k e h = search (arith, count_by-with_entry, sum_by-set)

  pub counted-with_flags : ((e : Entry) (flags : HandleFlags) → p (Some (record e { flags = flags })) ≡ p (Some e))
      → (ts : List (List (Option Entry))) (k value : ℕ) (e : Entry) (flags : HandleFlags)
      → entry_at (table_of ts k) value ≡ Some e → counted p (with_flags_of ts k value flags) ≡ counted p ts
  counted-with_flags same ts k value e flags is = search (arith, found_table, count_by-with_flags, sum_by-set)

  -- a table comes where none had an entry
  pub counted-with_table : (ts : List (List (Option Entry))) (k : ℕ) (from : Option ℕ) → table_of ts k ≡ []
      → counted p (with_table ts k from) ≡ counted p ts + count_by p (new_table ts from)
  counted-with_table ts k from none = search (arith, sum_by-append, sum_by-set)

  pub counted-without_entries : (ts : List (List (Option Entry))) (k : ℕ) → k < length ts
      → counted p (without_entries ts k) + count_by p (table_of ts k) ≡ counted p ts
  counted-without_entries ts k h = search (arith, sum_by-set)

  -- what a child inherits is among what its parent has
  count_by-before : (x : Option Entry) (t : List (Option Entry)) → count_by p (before x t) ≡ weight p x + count_by p t
  count_by-before a0 a1 = grind (arith, common_steps)

  count_by-trimmed : (t : List (Option Entry)) → count_by p (trimmed t) ≡ count_by p t
  count_by-trimmed [] = refl
  count_by-trimmed (x ∷ t) = search (arith, count_by-before, sum_by-cons, count_by-trimmed t)

  inheritable_falls : (x : Option Entry) → weight p (inheritable x) ≤ weight p x
  inheritable_falls a0 = search arith

  count_by-inheritable : (t : List (Option Entry)) → count_by p (map inheritable t) ≤ count_by p t
  count_by-inheritable [] = omega arith
  count_by-inheritable (x ∷ t) = search (arith, inheritable_falls, sum_by-cons, count_by-inheritable t)

  pub count_by-inherited : (t : List (Option Entry)) → count_by p (inherited t) ≤ count_by p t
  count_by-inherited t = search (arith, count_by-trimmed, count_by-inheritable)

-- handles of an object, over all tables
pub handles_among-with_entry : (id : Id) (ts : List (List (Option Entry))) (p : ℕ) (e : Entry) → p < length ts
    → handles_among id (with_entry_of ts p e) ≡ handles_among id ts + one_of id e
handles_among-with_entry id = counted-with_entry (names id) refl

pub handles_among-without_entry : (id : Id) (ts : List (List (Option Entry))) (p value : ℕ) (e : Entry)
    → entry_at (table_of ts p) value ≡ Some e → handles_among id (without_entry_of ts p value) + one_of id e
    ≡ handles_among id ts
handles_among-without_entry id = grind (arith, common_steps)

pub handles_among-with_flags : (id : Id) (ts : List (List (Option Entry))) (p value : ℕ) (e : Entry)
    (flags : HandleFlags) → entry_at (table_of ts p) value ≡ Some e
    → handles_among id (with_flags_of ts p value flags) ≡ handles_among id ts
handles_among-with_flags id = search (arith, counted-with_flags)

pub handles_among-with_table : (id : Id) (ts : List (List (Option Entry))) (k : ℕ) (from : Option ℕ)
    → table_of ts k ≡ []
    → handles_among id (with_table ts k from) ≡ handles_among id ts + handles_in id (new_table ts from)
handles_among-with_table id = counted-with_table (names id) refl

pub handles_among-without_entries : (id : Id) (ts : List (List (Option Entry))) (p : ℕ) → p < length ts
    → handles_among id (without_entries ts p) + handles_in id (table_of ts p) ≡ handles_among id ts
handles_among-without_entries id = counted-without_entries (names id) refl

pub handles_in-inherited : (id : Id) (t : List (Option Entry)) → handles_in id (inherited t) ≤ handles_in id t
handles_in-inherited id = count_by-inherited (names id) refl

-- an object that an entry names has a handle
pub found_counts : (ts : List (List (Option Entry))) (p value : ℕ) (e : Entry) → entry_at (table_of ts p) value ≡ Some e
    → 0 < handles_among e.id ts
found_counts ts p value e is = grind (arith, common_steps)

-- the handles in one table are among all
pub handles_in-among : (id : Id) (ts : List (List (Option Entry))) (p : ℕ) → p < length ts
    → handles_in id (table_of ts p) ≤ handles_among id ts
handles_in-among id ts p h = search (arith, get_or-le-sum_by)
