-- What is kept is kept by each change of a store, and the state after it is the settled one.
use Rattle.ob_store.proofs.Cited.{nat_tests, Body, at_place, ◌≡◌, ℕ, ◌<◌, ◌≤◌, List, [], ◌∷◌, length, Option, Some, None, refl, arith, get_or, map, set, IsSome, Id, Slot, KeeperState, HandleFlags, Entry, handles_among, entry_at, IsBounded, table_of, with_entry_of, with_flags_of, WaitList, Limits, ObjectsInvariant, PartsState, state_of, whole_of, SignaledState, StoreInvariant, IsSound, IsCounted, AreFormed, AreOfLive, IsPopulated, IsNamed, IsLive, ProcessesKept, ProcessesState, ObjectsState, kept_rest, opened, Whole, objects_of, settled, generation_of}
use Rattle.ob_tables.specs.Tables as tables
use Rattle.ob_tables.proofs.SlotCounts.{slot_handles-le}
use Rattle.ob_waits.specs.Rules.{WaitsHaveRoom}
use Rattle.ob_tables.specs.Processes as spec
use Rattle.ob_tables.specs.Processes.{next_number}
use Rattle.ob_store.specs.Objects.{with_handle_of, open_slot}
use Rattle.ob_store.specs.State.{next_process, next_thread}
use Rattle.ob_store.proofs.CountedLaws.{handles_at, handles_few, counted_flags, counted_placed, counted_process}
use Rattle.ob_store.proofs.NamedLaws.{there_within, named_flags, named_placed, named_process}
use Rattle.ob_store.proofs.BodyLaws.{of_live_more}
use Rattle.ob_store.proofs.ListingLaws.{listing_flags, listing_process, listing_placed}
use Rattle.ob_store.proofs.PlacedLaws.{live_tabled}
use Rattle.ob_store.proofs.PopulatedLaws.{populated_process, populated_thread}
use Rattle.ob_store.proofs.SettledLaws.{settled_still}
use Rattle.ob_tables.proofs.GivenLaws.{live_put, next_is_free, process_kept, thread_kept}

module _ (limits : Limits) (l : ProcessesState) (ts : List (List (Option Entry))) (process : ℕ) (table : List (Option Entry)) where
  -- the table of one process changes, which stays empty where that isn't live
  pub table_changed : (get_or l.processes process None ≡ None → table ≡ []) → ProcessesKept limits l ts
      → ProcessesKept limits l (set ts process table)
  table_changed empty k = grind (arith, at_place)

  -- that of a live process changes at will
  pub live_changed : IsLive l.processes process → ProcessesKept limits l ts → ProcessesKept limits l (set ts process table)
  live_changed live = grind (arith, at_place)

-- what is stored is what the state counts
pub objects_are : (p : PartsState) → IsSound p → p.objects.seen ≡ objects_of (state_of p)
objects_are p sound = search arith

-- nothing is left to settle
pub settled_kept : (p : PartsState) → StoreInvariant p → ObjectsInvariant p.objects → settled (state_of p) ≡ state_of p
settled_kept p kept tied = settled_still _ kept.sound.named (rw (objects_are p kept.sound) at tied.bodied) kept.settled

pub whole_kept : (p : PartsState) → StoreInvariant p → ObjectsInvariant p.objects
    → ◌≡◌ {A = Whole} (whole_of p) (record { state = settled (state_of p); keeper = p.objects.keeper })
whole_kept p kept tied = search (arith, settled_kept)

-- a keeper that only closed slots has its generations and its shape
generations_open : (xs : List Slot) → map generation_of (map open_slot xs) ≡ map generation_of xs
generations_open [] = refl
generations_open (x ∷ xs) = search (arith, generations_open xs)

pub same_generations : (a b : KeeperState) → opened a ≡ opened b → map generation_of a.slots ≡ map generation_of b.slots
same_generations a b same = search (arith, generations_open)

-- threads, objects and waits changed, but for what waits leave of objects as it is
module _ (p : PartsState) (l : ProcessesState) (q : ObjectsState) (ws : WaitList) (a : SignaledState)
    (rest : kept_rest q ≡ kept_rest p.objects) where
  abbrev pub rested : PartsState
  rested = record p { processes = l; objects = q; waits = ws; signaled = a }

  pub state_rested : state_of rested ≡ record (state_of p) {
    processes = l.processes;
    threads = l.threads;
    bodies = q.seen.bodies;
    waits = ws.waits;
    clock = ws.clock;
  }
  state_rested = search (arith, same_generations)

  pub sound_rested : IsSound p → ws.limit ≡ p.waits.limit → ProcessesKept p.limits l p.tables.tables
      → IsCounted q.seen (length p.objects.objects) p.tables.tables ws.waits
      → IsNamed p.objects.objects p.tables.tables ws.waits
      → AreFormed ws.clock p.objects.objects q.seen.bodies → AreOfLive l.threads q.seen.bodies ws.waits
      → WaitsHaveRoom p.limits.max_recursion q.seen.bodies ws.waits → IsSound rested
  sound_rested sound limit live counted named formed of_live room = search arith

-- bodies changed, and nothing else of the objects
pub sound_bodies : (p : PartsState) (q : ObjectsState) (a : SignaledState) (bodies : List (Option Body))
    → kept_rest q ≡ kept_rest p.objects → q.seen ≡ record p.objects.seen { bodies = bodies } → IsSound p
    → AreFormed p.waits.clock p.objects.objects bodies → AreOfLive p.processes.threads bodies p.waits.waits
    → WaitsHaveRoom p.limits.max_recursion bodies p.waits.waits → IsSound (record p { objects = q; signaled = a })
sound_bodies p q a bodies rest seen sound formed of_live room = rw seen (search (arith, sound_rested))

-- the object of a handle has a body
pub handled : (p : PartsState) (id : Id) → IsSound p → ObjectsInvariant p.objects → 0 < handles_among id p.tables.tables
    → IsSome (get_or p.objects.seen.bodies id.slot None)
handled p id sound tied some =
    search (arith, nat_tests, there_within, handles_at, slot_handles-le, sound.named.entries, sound.counted, tied.bodied.each)

pub few_handles : (p : PartsState) (slot : ℕ) → IsSound p
    → IsBounded p.tables.process_limit p.tables.handle_limit p.tables.tables
    → get_or p.objects.seen.handles slot 0 < 4294967295
few_handles p slot sound b = search (arith, handles_few)

-- an entry comes, of an object that has one
abbrev pub placed : PartsState → ℕ → Entry → PartsState
placed p process e = record p {
  tables = record p.tables { tables = with_entry_of p.tables.tables process e };
  objects = with_handle_of p.objects e.id.slot;
}

pub kept_placed : (p : PartsState) (process : ℕ) (e : Entry) → StoreInvariant p → IsLive p.processes.processes process
    → 0 < handles_among e.id p.tables.tables → StoreInvariant (placed p process e)
kept_placed p process e kept live some =
    search (arith, live_changed, counted_placed, listing_placed, live_tabled, named_placed)

-- an entry has other flags
abbrev pub flagged : PartsState → ℕ → ℕ → HandleFlags → PartsState
flagged p process value flags = record p {
  tables =
      record p.tables { tables = with_flags_of p.tables.tables process value flags };
}

pub kept_flags : (p : PartsState) (process value : ℕ) (flags : HandleFlags) → StoreInvariant p
    → IsSome (entry_at (table_of p.tables.tables process) value) → StoreInvariant (flagged p process value flags)
kept_flags p process value flags kept some = by (entry_at (table_of p.tables.tables process) value) refl some
  where
    by : (x : Option Entry) → entry_at (table_of p.tables.tables process) value ≡ x → IsSome x
        → StoreInvariant (flagged p process value flags)
    by None found none = absurd (cc)
    by (Some e) found _ = search (arith, table_changed, counted_flags, listing_flags, named_flags, kept.sound.processes_kept.vacated)

-- a process comes with its first thread, and with what it inherits of another, if of one
abbrev pub with_member : PartsState → Option ℕ → ℕ → PartsState
with_member p parent session = record p {
  processes = spec.with_process p.limits.reuse p.processes session;
  tables =
      record p.tables { tables = tables.with_table p.tables.tables (next_number p.limits.reuse p.processes.processes) parent };
}

module _ (p : PartsState) (w : Whole) (view : whole_of p ≡ w) (kept : StoreInvariant p)
    (processes : next_process w.state ≤ w.state.limits.processes) (threads : next_thread w.state ≤ w.state.limits.threads)
  where
    abbrev pub next : ℕ
    next = next_number p.limits.reuse p.processes.processes

    -- its table has no entry yet
    pub none_in : table_of p.tables.tables next ≡ []
    none_in = search (arith, next_is_free)

    pub member_kept : (parent : Option ℕ) (session : ℕ)
        → ProcessesKept p.limits (with_member p parent session).processes (with_member p parent session).tables.tables
    member_kept parent session =
        search (arith, process_kept, next_is_free, rw (← view) at processes, rw (← view) at threads, kept.sound.processes_kept)

    pub member_live : (parent : Option ℕ) (session : ℕ)
        → AreOfLive (with_member p parent session).processes.threads p.objects.seen.bodies p.waits.waits
    member_live parent session = search (arith, of_live_more, live_put, next_is_free)

    pub member_populated : (parent : Option ℕ) (session : ℕ)
        → IsPopulated (with_member p parent session).processes.processes (with_member p parent session).processes.threads
    member_populated parent session = search (arith, populated_process, next_is_free)

    pub kept_process : (session : ℕ) → StoreInvariant (with_member p None session)
    kept_process session = search (arith, member_kept, member_live, member_populated, counted_process, named_process, listing_process, none_in)

-- a thread comes
abbrev pub with_thread : PartsState → ℕ → PartsState
with_thread p process = record p { processes = spec.with_thread p.limits.reuse p.processes process }

pub kept_thread : (p : PartsState) (process : ℕ) → StoreInvariant p
    → next_number p.limits.reuse p.processes.threads ≤ p.limits.threads
    → IsLive p.processes.processes process → StoreInvariant (with_thread p process)
kept_thread p process kept few live =
    search (arith, live_put, next_is_free, of_live_more, populated_thread, thread_kept)
