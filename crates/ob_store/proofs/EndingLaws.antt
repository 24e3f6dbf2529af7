-- Threads and processes end: what is sound stays so, and is on its way to the settled state.
use Rattle.ob_store.proofs.Cited.{◌≡◌, ℕ, ◌≢◌, ◌<◌, List, length, Option, Some, None, refl, ◌∙◌, arith, get_or, set, map, true, is_some, sum_by, length-set, length-map, get_or-set_other, get_or-set_same, Id, KeeperState, Body, Entry, handles_among, Wait, slot_owner, without_blocks, thread_of, ObjectsInvariant, slot_left_by, thread_ended, IsLive, ProcessesState, IsCounted, ObjectsState, kept_rest, PartsState, SignaledState, KeepsEnough, State, AreLeft, IsEnding, IsUnderWay, table_of}
use Rattle.ob_waits.specs.Form.{slot_form}
use Rattle.ob_tables.specs.Tables.{without_entries}
use Rattle.ob_tables.proofs.Counting.{handles_among-without_entries}
use Rattle.ob_tables.proofs.SlotCounts.{slot_handles-without_entries}
use Rattle.ob_waits.specs.Rules as rules
use Rattle.ob_waits.specs.Waits.{thread_ids, unless_of, without_thread}
use Rattle.ob_waits.proofs.Counted.{slot_dropped, blocks_dropped}
use Rattle.ob_waits.proofs.Room.{room_dropped}
use Rattle.ob_store.proofs.BodyLaws.{formed_by}
use Rattle.ob_store.proofs.CountedLaws.{counted_unblocked}
use Rattle.ob_store.proofs.EndLaws.{some_set}
use Rattle.ob_store.proofs.EnoughLaws.{enough_unwaited}
use Rattle.ob_store.proofs.KeptLaws.{sound_rested, state_rested}
use Rattle.ob_store.proofs.LeftLaws.{left_blocks}
use Rattle.ob_store.proofs.NamedLaws.{sum_none}
use Rattle.ob_store.proofs.HeaderLaws.{read}

left_mapped : (t : ℕ) (bodies after : List (Option Body)) → AreLeft bodies after
    → AreLeft (map (slot_left_by t) bodies) (map (slot_left_by t) after)
left_mapped t bodies after l = search (arith, length-map, read)

-- whose wait is left is another's
waiter_left : (t u : ℕ) (w : Option Wait) → thread_of (unless_of t w) ≡ Some u → (thread_of w ≡ Some u) × (u ≢ t)
waiter_left t u w h = search arith

live_still : (threads : List (Option ℕ)) (t u : ℕ) → u ≢ t → IsLive threads u → IsLive (set threads t None) u
live_still threads t u other live = search (arith, get_or-set_other)

-- a thread ends: its blocks left, which q tells, and then its mutexes are abandoned, which r tells
module _ (p : PartsState) (q r : ObjectsState) (a : SignaledState) (t : ℕ)
    (alone : rules.WaitsInvariant p.waits.waits)
    (blocks : q.seen ≡ without_blocks p.objects.seen (thread_ids t p.waits.waits))
    (blocks_rest : kept_rest q ≡ kept_rest p.objects)
    (seen : r.seen ≡ record q.seen { bodies = map (slot_left_by t) q.seen.bodies })
    (seen_rest : kept_rest r ≡ kept_rest q) where
  abbrev ids : List Id
  ids = thread_ids t p.waits.waits

  abbrev dropped : List (Option Wait)
  dropped = map (unless_of t) p.waits.waits

  abbrev processes_left : ProcessesState
  processes_left = record p.processes { threads = set p.processes.threads t None }

  abbrev pub without : PartsState
  without = record p {
    processes = record p.processes { threads = set p.processes.threads t None };
    objects = r;
    waits = without_thread p.waits t;
    signaled = a;
  }

  rests : kept_rest r ≡ kept_rest p.objects
  rests = search arith

  bodies_are : r.seen.bodies ≡ map (slot_left_by t) q.seen.bodies
  bodies_are = search arith

  body_is : (k : ℕ) → get_or r.seen.bodies k None ≡ slot_left_by t (get_or q.seen.bodies k None)
  body_is k = search (arith, read)

  fewer : AreLeft p.objects.seen.bodies q.seen.bodies
  fewer = search (arith, left_blocks, blocks)

  form_at : (k : ℕ) → is_some (get_or r.seen.bodies k None) ≡ true
      → slot_form (get_or r.seen.bodies k None) ≡ slot_form (get_or p.objects.seen.bodies k None)
  form_at k h = search (arith, read, fewer.each)

  owner_at : (k u : ℕ) → slot_owner (get_or r.seen.bodies k None) ≡ Some u
      → (slot_owner (get_or p.objects.seen.bodies k None) ≡ Some u) × (u ≢ t)
  owner_at k u h = search (arith, fewer, body_is)

  way_thread : ObjectsInvariant r → (first : KeeperState) (s : State) → IsUnderWay first p s
      → IsUnderWay first without (thread_ended s t)
  way_thread tied first s way = record {
    tied = tied;
    sound = sound_rested p _ r _ a rests way.sound refl (search (arith, length-set, some_set)) counted (search (arith, blocks_dropped))
        (formed_by _ _ _ _ form_at way.sound.formed)
        (record {
          owners = λ k u h. let own = owner_at k u h in live_still _ t u own.1 (way.sound.of_live.owners k u own.0);
          waiters = λ n u h. let own = waiter_left t u _ (rw (read (unless_of t) p.waits.waits n) at h) in live_still _ t u own.1
              (way.sound.of_live.waiters n u own.0);
        })
        (search (arith, body_is, fewer, room_dropped));
    rest = state_rested p processes_left r (without_thread p.waits t) a rests
        ∙ (λ i. record (way.rest i) { threads = set (way.rest i).threads t None; bodies = r.seen.bodies; waits = map (unless_of t) (way.rest i).waits });
    bodies = rw bodies_are (left_mapped t _ _ (search (arith, fewer)));
    keeper = (λ i. (rests i).keeper) ∙ way.keeper;
  }
    where
      counted : IsCounted r.seen (length p.objects.objects) p.tables.tables dropped
      counted =
          let left = counted_unblocked _ _ _ _ way.sound.counted ids dropped (λ k. slot_dropped k t _ alone) in
          rw (seen, blocks) (record { handles = left.handles; blocks = left.blocks })

  pub ending_thread : ObjectsInvariant r → KeepsEnough p.signaled q.seen.bodies a r.seen.bodies
      → (first : KeeperState) (s : State) → IsEnding first p s → IsEnding first without (thread_ended s t)
  ending_thread tied more first s ending = search (arith, way_thread, enough_unwaited)

-- no entry of an empty table is counted
none_counted : (f : Option Entry → ℕ) → f None ≡ 0 → (t : List (Option Entry)) → ((k : ℕ) → get_or t k None ≡ None)
    → sum_by f t ≡ 0
none_counted f nothing t none = sum_none f None t (search (arith, none, nothing))

-- a process ends that has no thread and no entry
module _ (first : KeeperState) (p : PartsState) (s : State) (process : ℕ)
    (ending : IsEnding first p s)
    (table : process < length p.tables.tables)
    (none : (k : ℕ) → get_or (table_of p.tables.tables process) k None ≡ None)
    (alone : (t : ℕ) → get_or p.processes.threads t None ≡ Some process → ⊥) where
  abbrev way : IsUnderWay first p s
  way = ending.under_way

  ids_same : (id : Id) → handles_among id (without_entries p.tables.tables process) ≡ handles_among id p.tables.tables
  ids_same id = search (arith, none_counted, handles_among-without_entries)

  pub ending_process : IsEnding first (record p {
    processes =
        record p.processes { processes = set p.processes.processes process None };
    tables = record p.tables { tables = without_entries p.tables.tables process };
  })
      (record s { tables = without_entries p.tables.tables process; processes = set s.processes process None })
  ending_process = search (arith, none_counted, slot_handles-without_entries, ids_same, get_or-set_other, get_or-set_same, length-set)
