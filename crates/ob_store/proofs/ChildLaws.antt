-- What is kept is kept where a child comes with what it inherits.
use Rattle.ob_store.proofs.Cited.{nat_tests, at_place, ◌≡◌, ℕ, ◌+◌, ◌<◌, ◌≤◌, List, [], ◌∷◌, length, Option, Some, None, refl, arith, get_or, IfSome, IsSome, length-set, length-map, get_or-map, get_or_past, sum_by-cons, Entry, slot_handles, slot_handles_in, HandleTables, IsBounded, table_of, ObjectsInvariant, PartsState, state_of, whole_of, StoreInvariant, handles_among-with_table, slot_handles-few, ObjectsState, Whole, settled, IsFree, by_slot, IsNamed}
use Rattle.ob_tables.specs.Inheritance.{inherited}
use Rattle.ob_tables.specs.Tables as tables
use Rattle.ob_tables.proofs.Counting.{handles_in-inherited, handles_in-among}
use Rattle.ob_tables.proofs.Inheriting.{at-trimmed}
use Rattle.ob_tables.proofs.SlotCounts.{slot_handles-with_table}
use Rattle.ob_tables.specs.Processes.{next_number}
use Rattle.ob_store.specs.Objects.{with_handle_at, with_handles_of}
use Rattle.ob_store.specs.State as state
use Rattle.ob_store.specs.State.{next_process, next_thread}
use Rattle.ob_store.proofs.BySlot.{recounted, count_few}
use Rattle.ob_store.proofs.CountedLaws.{handles_at, handles_long}
use Rattle.ob_store.proofs.NamedLaws.{entry_counted}
use Rattle.ob_store.proofs.ListingLaws.{listing_process}
use Rattle.ob_tables.proofs.GivenLaws.{get_or-put, next_is_free, within-put}
use Rattle.ob_store.proofs.KeptLaws.{handled, member_kept, member_live, member_populated, none_in, with_member}

-- all but the counts of handles
pub handles_stay : (places : List (Option Entry)) (s : ObjectsState)
    → with_handles_of s places ≡ record s { seen = record s.seen { handles = (with_handles_of s places).seen.handles } }
handles_stay [] s = refl
handles_stay (x ∷ places) s = search (arith, handles_stay places)

pub handles_long_after : (places : List (Option Entry)) (s : ObjectsState)
    → length (with_handles_of s places).seen.handles ≡ length s.seen.handles
handles_long_after [] s = refl
handles_long_after (x ∷ places) s = grind (arith, length-set, handles_long_after places)

-- a slot counts as many more as the table has entries of it
pub handles_counted : (places : List (Option Entry)) (s : ObjectsState) (k : ℕ) → k < length s.seen.handles
    → get_or (with_handles_of s places).seen.handles k 0 ≡ get_or s.seen.handles k 0 + slot_handles_in k places
handles_counted [] s k lt = omega arith
handles_counted (None ∷ places) s k lt = search (arith, sum_by-cons, handles_counted places s k lt)
handles_counted (Some e ∷ places) s k lt =
    let sum = sum_by-cons (λ x. slot_handles_in k (x ∷ [])) (Some e) places in
    grind (arith, at_place, sum, handles_counted places (with_handle_at s (Some e)) k)

module _ (p : PartsState) (kept : StoreInvariant p) (parent : ℕ) (w : Whole) (view : whole_of p ≡ w)
    (table : parent < length w.state.tables)
    (processes : next_process w.state ≤ w.state.limits.processes) (threads : next_thread w.state ≤ w.state.limits.threads)
  where
    abbrev pub child_table : List (Option Entry)
    child_table = inherited (table_of p.tables.tables parent)

    abbrev ts : List (List (Option Entry))
    ts = p.tables.tables

    -- its number
    abbrev own : ℕ
    own = next_number p.limits.reuse p.processes.processes

    own_free : IsFree p.processes.processes own
    own_free = search (arith, next_is_free)

    empty : table_of ts own ≡ []
    empty = search (arith, none_in)

    -- what is read of the new table
    pub child_read : (places : List (Option Entry)) (t : HandleTables) (child : ℕ) → places ≡ table_of t.tables child
        → child ≡ own → t ≡ record p.tables { tables = tables.with_table p.tables.tables own (Some parent) }
        → places ≡ inherited (table_of p.tables.tables parent)
    child_read places t child read last copied = grind (arith, nat_tests, get_or-put, kept.sound.processes_kept.tabled, own_free.within)

    -- and that it is there
    pub child_within : (t : HandleTables) (child : ℕ) → child ≡ own
        → t ≡ record p.tables { tables = tables.with_table p.tables.tables own (Some parent) } → child < length t.tables
    child_within t child last copied = search (arith, within-put, kept.sound.processes_kept.tabled, own_free.within)

    -- what a child inherits has a body
    pub inherited_live : ObjectsInvariant p.objects → (places : List (Option Entry)) → places ≡ child_table → (i : ℕ) →
        IfSome (get_or places i None) (λ e. IsSome (get_or p.objects.seen.bodies e.id.slot None))
    inherited_live tied places same i =
        rw same (by (get_or child_table i None) refl)
      where
        by : (x : Option Entry) → get_or child_table i None ≡ x → IfSome x (λ e. IsSome (get_or p.objects.seen.bodies e.id.slot None))
        by None is = tt
        by (Some e) is =
            let own : get_or (table_of ts parent) i None ≡ Some e = search (arith, at-trimmed, get_or-map, get_or_past, length-map) in
            search (handled, kept.sound, entry_counted, own, kept.sound.named)

    -- and no slot counts too many handles for that
    pub inherited_few : IsBounded p.tables.process_limit p.tables.handle_limit p.tables.tables → (k : ℕ)
        → get_or p.objects.seen.handles k 0 + 16384 ≤ 4294967295
    inherited_few b k = omega (arith, slot_handles-few k _ _ ts b, count_few _ _ (λ i. slot_handles i ts) k kept.sound.counted.handles)

    abbrev pub with_child : ℕ → ObjectsState → PartsState
    with_child session objects = record (with_member p (Some parent) session) { objects = objects }

    handles_after : (with_handles_of p.objects (inherited (table_of p.tables.tables parent))).seen.handles
        ≡ by_slot (length p.objects.objects) (λ k. slot_handles k (tables.with_table p.tables.tables own (Some parent)))
    handles_after =
        search (arith, recounted, handles_long_after, handles_long, handles_counted, handles_at, slot_handles-with_table, empty, kept.sound.counted)

    named_child : IsNamed p.objects.objects (tables.with_table p.tables.tables own (Some parent)) p.waits.waits
    named_child = search (arith, rw (← view) at table, handles_among-with_table, handles_in-inherited, handles_in-among, empty)

    pub kept_child : (session : ℕ)
        → StoreInvariant (with_child session (with_handles_of p.objects (inherited (table_of p.tables.tables parent))))
    kept_child session = rw (handles_stay child_table p.objects)
        (search (arith, member_kept, member_live, member_populated, handles_after, named_child, listing_process, empty, view, threads))

    pub settled_child : (session : ℕ) → ◌≡◌ {A = Whole} (record {
      state = settled
          (state_of (with_child session (with_handles_of p.objects (inherited (table_of p.tables.tables parent)))));
      keeper = (with_handles_of p.objects (inherited (table_of p.tables.tables parent))).keeper;
    }) (record (whole_of p) { state = settled (state.with_child (state_of p) parent session) })
    settled_child session = search (arith, handles_stay)
