-- The entries of a table leave one after another.
use Rattle.ob_store.proofs.Cited.{at_place, get_or-set_same, length-set, set-get_or, Entry, IsSome, KeeperState, Rows, ObjectsInvariant, IsSound, PartsState, State, ◌≡◌, ℕ, zero, suc, ◌+◌, ◌*◌, ◌<◌, List, [], ◌∷◌, length, Option, Some, None, refl, arith, get_or, set, Bool, eqb, entry_at, HandleTables, table_of, without_entry_of, ObjectsState, name_in, IsEnding, tables_left, with_left}
use Rattle.std.proofs.Common.{set-set}
use Rattle.ob_tables.specs.Tables.{without_entries}
use Rattle.ob_tables.proofs.Counting.{without_found}
use Rattle.ob_store.specs.Ends.{process_ended}
use Rattle.ob_store.specs.Moves.{rows_left}
use Rattle.ob_store.specs.Objects.{without_handle_of}
use Rattle.ob_store.specs.UnderWay.{without_first}
use Rattle.ob_store.proofs.EndingLaws.{ending_process}
use Rattle.ob_store.proofs.EnoughLaws.{enough_left}
use Rattle.ob_store.proofs.LeavingLaws.{bodies_left, held, has_object, sound_left, way_left}

-- the entry of the next place still stands there
left_here : (places : List (Option Entry)) (n : ℕ) → get_or (without_first n places) n None ≡ get_or places n None
left_here places zero = search arith
left_here (place ∷ places) (suc n) = left_here places n
left_here places n = refl

-- and once it has left one more has
left_suc : (places : List (Option Entry)) (n : ℕ) → set (without_first n places) n None ≡ without_first (suc n) places
left_suc [] zero = refl
left_suc [] (suc n) = refl
left_suc (place ∷ places) zero = refl
left_suc (place ∷ places) (suc n) = search (arith, left_suc places n)

left_more : (places : List (Option Entry)) (n : ℕ) → set (without_first n places) n None ≡ without_first (n + 1) places
left_more places n = search (arith, left_suc)

-- in the end none is left
pub none_left : (places : List (Option Entry)) (k : ℕ) → get_or (without_first (length places) places) k None ≡ None
none_left [] k = refl
none_left (place ∷ places) k = grind (arith, none_left places)

module _ (ts : List (List (Option Entry))) (p : ℕ) (places : List (Option Entry)) (n : ℕ) where
  -- there is one, and it leaves
  pub left_some : p < length ts → (e : Entry) → get_or places n None ≡ Some e
      → without_entry_of (tables_left ts p places n) p (4 * (n + 1)) ≡ tables_left ts p places (n + 1)
  left_some within e is = search (arith, without_found, get_or-set_same, left_here, left_more, set-set)

  -- there is none
  pub left_none : get_or places n None ≡ None → tables_left ts p places n ≡ tables_left ts p places (n + 1)
  left_none is = cc (left_more places n, left_here places n, set-get_or (without_first n places) n None, is)

-- the entry of the next place leaves
module _ (p : PartsState) (process : ℕ) (places : List (Option Entry)) (n : ℕ) (e : Entry)
    (sound : IsSound (with_left p process places n)) (tied : ObjectsInvariant p.objects)
    (within : process < length p.tables.tables) (here : get_or places n None ≡ Some e) where
  abbrev before : PartsState
  before = with_left p process places n

  abbrev value : ℕ
  value = 4 * (n + 1)

  found : entry_at (table_of (tables_left p.tables.tables process places n) process) (4 * (n + 1)) ≡ Some e
  found = search (arith, get_or-set_same, left_here)

  pub left_held : 0 < get_or p.objects.seen.handles e.id.slot 0
  left_held = held before process value e sound tied found

  pub left_has_object : (q : ObjectsState) → q ≡ without_handle_of p.objects e.id.slot
      → IsSome (get_or q.objects e.id.slot None)
  left_has_object = search (arith, has_object, found)

  module _ (was_last : Bool) (q : ObjectsState) (rows : Rows)
      (is : q ≡ without_handle_of p.objects e.id.slot)
      (last : was_last ≡ eqb (get_or p.objects.seen.handles e.id.slot 0) 1)
      (names : rows ≡ rows_left p.rows was_last (name_in (get_or q.objects e.id.slot None))) where
    pub next_sound : IsSound (with_left (record p { objects = q; rows = rows }) process places (n + 1))
    next_sound = rw (← left_some _ _ _ n within e here) (sound_left _ _ _ e sound tied found _ q _ is last names)

    pub next_ending : ObjectsInvariant q → (first : KeeperState) (s : State)
        → IsEnding first (with_left p process places n) s
        → IsEnding first (with_left (record p { objects = q; rows = rows }) process places (n + 1))
        (record s { tables = tables_left p.tables.tables process places (n + 1) })
    next_ending done first s ending =
        let way = way_left _ _ _ e sound tied found _ q _ is last names done _ s ending.under_way in
        let fewer = bodies_left _ _ _ e sound tied found in
        search (arith, left_some _ _ _ n within e here, way, fewer, enough_left, ending.enough, is)

-- no entry left
pub same_ending : (first : KeeperState) (p : PartsState) (s : State) (tables : List (List (Option Entry)))
    → p.tables.tables ≡ tables → IsEnding first p s
    → IsEnding first (record p { tables = record p.tables { tables = tables } }) (record s { tables = tables })
same_ending first p s tables is ending = search (arith, ending.under_way.rest)

-- the entries of a process are taken out: before the first of them leaves the tables are what they were
pub taken_out : (ts new : HandleTables) (process : ℕ) (places : List (Option Entry))
    → new ≡ record ts { tables = without_entries ts.tables process } → places ≡ table_of ts.tables process
    → record new { tables = tables_left new.tables process places 0 } ≡ ts
taken_out ts new process places is taken = search (arith, set-set, set-get_or)

-- once all have left the process ends
module _ (first : KeeperState) (p : PartsState) (s : State) (process : ℕ) (places : List (Option Entry))
    (same : p.tables.tables ≡ s.tables)
    (within : process < length p.tables.tables)
    (alone : (t : ℕ) → get_or p.processes.threads t None ≡ Some process → ⊥) where
  abbrev last : List (List (Option Entry))
  last = tables_left (without_entries p.tables.tables process) process places (length places)

  none : (k : ℕ) → get_or (table_of (tables_left (without_entries p.tables.tables process) process places
      (length places)) process) k None ≡ None
  none k = search (arith, get_or-set_same, none_left, length-set)

  gone : without_entries (tables_left (without_entries p.tables.tables process) process places (length places)) process
      ≡ without_entries p.tables.tables process
  gone = search (arith, set-set)

  pub ending_emptied : (new : HandleTables) → new ≡ record p.tables { tables = without_entries p.tables.tables process }
      → IsEnding first (with_left (record p { tables = new }) process places (length places))
      (record s { tables = tables_left new.tables process places (length places) })
      → IsEnding first (record p {
        processes = record p.processes {
          processes =
              set p.processes.processes process None;
        };
        tables = new;
      }) (process_ended s process)
  ending_emptied new is ending = rw (is, ← same, ← gone) (ending_process _ _ _ _ (rw is at ending) (grind (arith, at_place)) none alone)
