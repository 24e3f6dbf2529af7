-- What is kept as a thread takes what it waits for, and as waits come, are answered and go.
use Rattle.ob_store.proofs.Cited.{at_place, ◌≡◌, ℕ, ◌+◌, ◌<◌, ◌≤◌, List, [], ◌∷◌, ◌++◌, length, Option, Some, None, refl, arith, get_or, false, cond, length-set, cases_lt, same_id, Id, Body, handles_among, Mode, Wait, without_blocks, HasRoom, IsSettled, thread_of, ObjectsInvariant, IsLive, AreFormed, AreOfLive, IsNamed, IsSound, StoreInvariant, Object, ObjectsState, kept_rest, with_blocks_of, PartsState, state_of, whole_of, settled, AreLeft, IsUnderWay, nat_tests, count_by, one_id, nowhere, ids_of, new_wait, settled_less, eqb, sum_by-cons}
use Rattle.std.specs.Prelude.{if◌then◌else◌}
use Rattle.std.specs.Option.{IfNone, OnSome}
use Rattle.ob_waits.specs.declared.wait.WaitState.{WaitState}
use Rattle.ob_waits.specs.declared.wait.WaitState.TheVariants as shown
use Rattle.ob_waits.specs.Form.{HasWait}
use Rattle.ob_waits.specs.Rules as rules
use Rattle.ob_waits.specs.Waits.{answered, bodies_after, code_now, is_answer, list_ready, number_of, objects_now, state_at, slot_places}
use Rattle.ob_waits.specs.Waits as waits
use Rattle.ob_waits.proofs.Counted.{blocks_added, blocks_answered, blocks_removed, slot_added, slot_answered, slot_removed, slot_blocks-few}
use Rattle.ob_waits.proofs.Room.{room_added, room_answered, room_now, room_removed}
use Rattle.ob_waits.proofs.Settled.{settled_added, settled_answered, settled_now}
use Rattle.ob_waits.proofs.Staying.{taken}
use Rattle.ob_store.specs.Waiting.{joined, with_answer, with_taken, without_wait}
use Rattle.ob_store.proofs.BodyLaws.{formed_by}
use Rattle.ob_store.proofs.BySlot.{recounted, count_few}
use Rattle.ob_store.proofs.CountedLaws.{blocks_at, blocks_long, counted_unblocked}
use Rattle.ob_store.proofs.KeptLaws.{settled_kept, sound_bodies, sound_rested, state_rested, whole_kept}
use Rattle.ob_store.proofs.NamedLaws.{named_fewer, some_counts}
use Rattle.ob_store.proofs.LeftLaws.{left_blocks}
use Rattle.ob_store.specs.Objects.{with_block_of}

-- a new wait, of a live thread
of_live_waiting : (threads : List (Option ℕ)) (bodies : List (Option Body)) (ws : List (Option Wait)) (t : ℕ)
    (mode : Mode) (ids : List Id) (d : Option ℕ) → IsLive threads t → AreOfLive threads bodies ws
    → AreOfLive threads bodies (ws ++ Some (new_wait t mode ids d) ∷ [])
of_live_waiting threads bodies ws t mode ids d live l = grind (arith, at_place)

has_new : (ws : List (Option Wait)) (w : Wait) → HasWait w.thread (ws ++ Some w ∷ [])
has_new ws w = (length ws, grind (arith, nat_tests, at_place))

-- a live thread takes at once what it waits for
of_live_taken : (threads : List (Option ℕ)) (bodies : List (Option Body)) (ws : List (Option Wait)) (t : ℕ)
    (mode : Mode) (ids : List Id) → IsLive threads t → AreOfLive threads bodies ws
    → AreOfLive threads (bodies_after mode t bodies ids) ws
of_live_taken threads bodies ws t mode ids live l =
    search (arith, taken (Some (new_wait t mode ids None) ∷ []) t (has_new [] (new_wait t mode ids None)) mode ids bodies)

formed_taken : (clock : ℕ) (objects : List (Option Object)) (bodies : List (Option Body)) (t : ℕ) (mode : Mode)
    (ids : List Id) → AreFormed clock objects bodies → AreFormed clock objects (bodies_after mode t bodies ids)
formed_taken clock objects bodies t mode ids f =
    search (arith, formed_by, taken (Some (new_wait t mode ids None) ∷ []) t (has_new [] (new_wait t mode ids None)) mode ids bodies)

-- where a thread's wait was satisfied it took, and else nothing changed
module _ (p : PartsState) (q : ObjectsState) (t : ℕ) (mode : Mode) (ids : List Id)
    (rest : kept_rest q ≡ kept_rest p.objects) (seen : q.seen ≡ objects_now mode t p.objects.seen ids) where
  pub kept_now : StoreInvariant p → number_of t p.waits.waits ≡ None → IsLive p.processes.threads t → (code : Option ℕ)
      → code ≡ code_now mode t p.objects.seen.bodies ids → IfNone code (q ≡ p.objects)
      → StoreInvariant (record p { objects = q })
  kept_now kept alone live code is same = search (arith, sound_bodies, formed_taken, of_live_taken, room_now, settled_now)

  pub state_now : StoreInvariant (record p { objects = q }) → ObjectsInvariant q → (code : Option ℕ)
      → code ≡ code_now mode t p.objects.seen.bodies ids
      → OnSome code (state_of (record p { objects = q }) ≡ settled (with_taken (state_of p) t mode ids))
  state_now after tied code is = grind (arith, settled_kept _ after tied, state_rested p p.processes q p.waits p.signaled rest)

-- what holds of each of some Ids holds of one that is among them
among : (P : Id → Type 0) (ids : List Id) → ((i : ℕ) → i < length ids → P (get_or ids i nowhere)) → (id : Id)
    → 0 < count_by (same_id id) ids → P id
among P ids each id h = grind (arith, nat_tests, one_id, some_counts (λ x. cond (same_id id x) 1 0) nowhere ids (P id))

-- the counts of blocks have room for one more wait
pub few_blocks : (p : PartsState) → StoreInvariant p → rules.WaitsInvariant p.waits.waits
    → length p.waits.waits ≤ 4294967296 → (k : ℕ) → get_or p.objects.seen.blocks k 0 + 64 ≤ 18446744073709551615
few_blocks p kept each few k = search (arith, count_few, slot_blocks-few)

-- blocks of a list came: all but their counts stays
pub came_stays : (ids : List Id) (s : ObjectsState)
    → with_blocks_of s ids ≡ record s { seen = record s.seen { blocks = (with_blocks_of s ids).seen.blocks } }
came_stays [] s = refl
came_stays (id ∷ ids) s = search (arith, came_stays ids (with_block_of s id.slot))

pub came_long : (ids : List Id) (s : ObjectsState) → length (with_blocks_of s ids).seen.blocks ≡ length s.seen.blocks
came_long [] s = refl
came_long (id ∷ ids) s = search (arith, length-set, came_long ids (with_block_of s id.slot))

-- a slot counts as many more as the list has places of it
pub came_counts : (ids : List Id) (s : ObjectsState) (k : ℕ) → k < length s.seen.blocks
    → get_or (with_blocks_of s ids).seen.blocks k 0 ≡ get_or s.seen.blocks k 0 + slot_places k ids
came_counts [] s k lt = omega arith
came_counts (id ∷ ids) s k lt = grind (arith, at_place, sum_by-cons (λ (x : Id). cond (eqb x.slot k) 1 0) id ids, came_counts ids (with_block_of s id.slot) k)

-- a wait that isn't satisfied now became pending
module _ (p : PartsState) (t : ℕ) (mode : Mode) (ids : List Id) (d : Option ℕ) where
  abbrev pub waiting : PartsState
  waiting = record p { objects = with_blocks_of p.objects ids; waits = waits.with_wait p.waits t mode ids d }

  pub state_waiting : state_of waiting ≡ joined (state_of p) t mode ids d
  state_waiting = search (arith, came_stays)

  pub whole_waiting : StoreInvariant waiting → ObjectsInvariant (with_blocks_of p.objects ids)
      → whole_of waiting ≡ record (whole_of p) { state = settled (joined (state_of p) t mode ids d) }
  whole_waiting after tied = rw (← settled_kept waiting after tied, state_waiting) (search (arith, came_stays))

  module _ (kept : StoreInvariant p)
      (there : (i : ℕ) → i < length ids → 0 < handles_among (get_or ids i nowhere) p.tables.tables) where
    named_after : IsNamed p.objects.objects p.tables.tables (waits.with_wait p.waits t mode ids d).waits
    named_after = search (arith, among (λ (x : Id). 0 < handles_among x p.tables.tables) ids there, blocks_added, cases_lt)

    pub sound_waiting : HasRoom p.limits.max_recursion t p.objects.seen.bodies ids → IsLive p.processes.threads t
        → IsSound waiting
    sound_waiting room live =
        rw (came_stays ids p.objects)
        (search (arith, of_live_waiting, recounted, blocks_at, blocks_long, came_long, came_counts, slot_added, kept.sound.counted, named_after, room_added))

    pub kept_waiting : HasRoom p.limits.max_recursion t p.objects.seen.bodies ids → IsLive p.processes.threads t
        → list_ready mode t p.objects.seen.bodies ids ≡ false → StoreInvariant waiting
    kept_waiting room live unready = search (arith, came_stays, sound_waiting, settled_added, kept.populated, kept.settled)

answered_thread : (w : Option Wait) (code u : ℕ) → thread_of (answered w code) ≡ Some u → thread_of w ≡ Some u
answered_thread = search arith

-- a pending wait was answered, and its blocks left, which q tells
module _ (p : PartsState) (q : ObjectsState) (n code : ℕ) (ids : List Id)
    (kept : StoreInvariant p)
    (rest : kept_rest q ≡ kept_rest p.objects)
    (are : ids ≡ ids_of (get_or p.waits.waits n None))
    (seen : q.seen ≡ without_blocks p.objects.seen ids) where
  abbrev pub expired : PartsState
  expired = record p { objects = q; waits = waits.with_answer p.waits n code }

  fewer : AreLeft p.objects.seen.bodies q.seen.bodies
  fewer = search (arith, left_blocks, seen)

  pub way_expired : ObjectsInvariant q → IsUnderWay p.objects.keeper expired (with_answer (state_of p) n code)
  way_expired tied =
      let sound : IsSound expired = search (arith, at_place, sound_rested, counted_unblocked, slot_answered, seen, are, blocks_answered, left_blocks, answered_thread, fewer, room_answered, kept.sound) in
      let state = state_rested p p.processes q (waits.with_answer p.waits n code) p.signaled rest in
      search (arith, sound, state, fewer, rest)

  pub settled_expired : IsSettled q.seen.bodies (waits.with_answer p.waits n code).waits
  settled_expired = settled_answered _ _ n _ (settled_less _ _ _ (search (arith, fewer)) kept.settled)

-- a wait that was answered is over
abbrev over : PartsState → ℕ → PartsState
over p n = record p { waits = waits.without_wait p.waits n }

kept_over : (p : PartsState) (n code : ℕ) → StoreInvariant p
    → Some (shown.Answered code) ≡ state_at (get_or p.waits.waits n None) → StoreInvariant (over p n)
kept_over p n code kept is = search (arith, at_place, sound_rested, recounted, blocks_at, slot_removed, named_fewer, blocks_removed, room_removed)

-- where a wait stands is told, and it is over where it is answered
abbrev pub told : PartsState → ℕ → Option WaitState → PartsState
told p n state = record p { waits = if is_answer state then waits.without_wait p.waits n else p.waits }

pub kept_told : (p : PartsState) (n : ℕ) (state : Option WaitState) → StoreInvariant p
    → state ≡ state_at (get_or p.waits.waits n None) → StoreInvariant (told p n state)
kept_told p n state kept is = grind (arith, kept_over)

pub whole_told : (p : PartsState) (n : ℕ) (state : Option WaitState) → StoreInvariant p → ObjectsInvariant p.objects
    → state ≡ state_at (get_or p.waits.waits n None) → whole_of (told p n state)
    ≡ (if is_answer state then record (whole_of p) { state = settled (without_wait (state_of p) n) } else whole_of p)
whole_told p n (Some (shown.Answered code)) kept tied is = whole_kept (over p n) (kept_over p n code kept is) tied
whole_told p n state kept tied is = refl
