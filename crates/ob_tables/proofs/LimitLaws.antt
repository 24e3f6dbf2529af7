-- When a table is full, and that no table outgrows its limit.
use Rattle.ob_codec.proofs.AtPlace.{at_place}
use Rattle.std.proofs.lemmas.Bool.Decides.{nat_tests}
use Rattle.std.proofs.Common.{◌≡◌, ℕ, suc, ◌<◌, ◌≤◌, List, [], ◌∷◌, ◌++◌, length, Option, Some, None, refl, arith, get_or, set, true, leb, ◌↔◌}
use Rattle.std.specs.Prelude.{is_some}
use Rattle.std.proofs.lemmas.List.{get_or_read, length-append, length-set}
use Rattle.std.proofs.lemmas.List.Sums.{count_by-le-length, sum_by-cons}
use Rattle.ob_tables.specs.declared.entry.Entry.{Entry}
use Rattle.ob_tables.specs.Table.{free_place, with_entry}
use Rattle.ob_tables.specs.Counts.{entries_in}
use Rattle.ob_tables.specs.Tables.{table_of}
use Rattle.ob_tables.proofs.Places.{with_entry_at, with_entry_end}

pub entries_in-some : (x : Entry) (t : List (Option Entry)) → entries_in (Some x ∷ t) ≡ suc (entries_in t)
entries_in-some x t = search (arith, sum_by-cons)

-- there are as many entries as places, or fewer
pub entries_in-le : (t : List (Option Entry)) → entries_in t ≤ length t
entries_in-le = count_by-le-length is_some

-- a table without a free place has as many
pub full_entries : (t : List (Option Entry)) → length t ≤ free_place t → entries_in t ≡ length t
full_entries [] h = refl
full_entries (None ∷ t) h = absurd (omega arith)
full_entries (Some x ∷ t) h = omega (arith, entries_in-some x t, full_entries t (omega arith))

-- and one with a free place has fewer
pub short_entries : (t : List (Option Entry)) → free_place t < length t → entries_in t < length t
short_entries [] h = absurd (omega arith)
short_entries (None ∷ t) h = omega (arith, entries_in-le t)
short_entries (Some x ∷ t) h = omega (arith, entries_in-some x t, short_entries t (omega arith))

pub free_place-le : (t : List (Option Entry)) → free_place t ≤ length t
free_place-le [] = omega arith
free_place-le (x ∷ t) = grind (arith, free_place-le t)

-- each table of the list is within the limit
pub record AreShort (ts : List (List (Option Entry))) (m : ℕ) : Type 0 where
  pub each : (p : ℕ) → length (table_of ts p) ≤ m

-- a table whose least free place is at the limit is full, and one with a lower one has room
pub is_full : (ts : List (List (Option Entry))) (p m : ℕ) → AreShort ts m → m ≤ free_place (table_of ts p)
    → entries_in (table_of ts p) ≡ m
is_full ts p m short at = search (arith, full_entries, free_place-le)

pub has_room : (ts : List (List (Option Entry))) (p m : ℕ) → AreShort ts m → free_place (table_of ts p) < m
    → entries_in (table_of ts p) < m
has_room ts p m short below = search (arith, full_entries, short_entries)

-- no table has more than the limit
pub few_at : (ts : List (List (Option Entry))) (p m : ℕ) (t : List (Option Entry)) → AreShort ts m → p < length ts
    → t ≡ get_or ts p t → entries_in t ≤ m
few_at ts p m t short lt read = search (arith, entries_in-le, get_or_read)

-- the test of the least free place tells whether a table is full
pub full_test : (ts : List (List (Option Entry))) (p m : ℕ) → AreShort ts m
    → (leb m (free_place (table_of ts p)) ≡ true) ↔ (entries_in (table_of ts p) ≡ m)
full_test ts p m short = search (arith, is_full, has_room)

-- the same where `t` was read at `p`, and `n` is its least free place
pub full_at : (ts : List (List (Option Entry))) (p m : ℕ) (t : List (Option Entry)) (n : ℕ) → AreShort ts m
    → p < length ts → t ≡ get_or ts p t → n ≡ free_place t → m ≤ n → entries_in (table_of ts p) ≡ m
full_at ts p m t n short lt read is at = search (arith, is_full, get_or_read)

pub room_at : (ts : List (List (Option Entry))) (p m : ℕ) (t : List (Option Entry)) (n : ℕ) → AreShort ts m
    → p < length ts → t ≡ get_or ts p t → n ≡ free_place t → n < m → entries_in (table_of ts p) < m
room_at ts p m t n short lt read is below = search (arith, has_room, get_or_read)

-- an entry below the limit keeps a table within it
pub length-with_entry : (t : List (Option Entry)) (e : Entry) (m : ℕ) → length t ≤ m → free_place t < m
    → length (with_entry t e) ≤ m
length-with_entry t e m short below = search (arith, free_place-le, length-append, length-set, with_entry_at, with_entry_end)

-- a table comes, or changes
pub short_pushed : (ts : List (List (Option Entry))) (t : List (Option Entry)) (m : ℕ)
    → ((p : ℕ) → length (table_of ts p) ≤ m) → length t ≤ m → (p : ℕ) → length (table_of (ts ++ t ∷ []) p) ≤ m
short_pushed ts t m each short p = grind (arith, nat_tests, at_place)

pub short_set : (ts : List (List (Option Entry))) (k : ℕ) (t : List (Option Entry)) (m : ℕ)
    → ((p : ℕ) → length (table_of ts p) ≤ m) → length t ≤ m → (p : ℕ) → length (table_of (set ts k t) p) ≤ m
short_set ts k t m each short p = grind (arith, nat_tests, at_place)
