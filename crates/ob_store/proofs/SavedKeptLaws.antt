-- What holds of objects that were read, with their tables, waits and threads, and that such objects are taken.
use Rattle.ob_store.proofs.Cited.{◌≡◌, ℕ, ◌<◌, Bool, true, false, cond, List, [], length, get_or, map, Option, Some, None, Ok, refl, subst, arith, list_all, count_by, sum_by, get_or-map, length-map, same_id, Id, Slot, Rows, Entry, Wait, Limits, ObjectsInvariant, made_in, counting_all, IsLive, ObjectsState, Places, Births, births_from, names_in, whole_at, with_slots, slots_at, by_slot, shape_of, nat_tests, and_parts, HasRoom, thread_of, WaitList, ids_of, nowhere, slot_blocks, AreFormed, AreOfLive, IsCounted, IsListing, IsNamed, IsThere, owner_stands, wait_stands, with_blocks, one_id, and_from, AllPass-from_list_all, WaitHasRoom, blocks_in, is_ready, IsQuiet, all_stand, may_wait_for, object_blocks, owners_stand}
use Rattle.ob_store.proofs.BySlot.{is_by_slot}
use Rattle.ob_store.proofs.CountingLaws.{its_id}
use Rattle.ob_store.proofs.NamedLaws.{blocks_are, blocks_vacant, place_counted, some_counts}
use Rattle.ob_store.proofs.SavedNameLaws.{names_sound}
use Rattle.ob_store.proofs.SavedObjectLaws.{are_read, counts, read_formed, read_handles}
use Rattle.ob_store.proofs.ByPlace.{all_at, all_from}

-- the steps in which objects were read
pub record IsWhole (limits : Limits) (tables : List (List (Option Entry))) (list : WaitList) (bytes : List ℕ)
    (s : ObjectsState) (rows : Rows) (rest : List ℕ) : Type 0 where
  pub p : Places
  pub q : Places
  pub slots : List Slot
  pub order : Births
  pub read : slots_at limits.reuse limits.slots limits.max_gen list.clock bytes ≡ Ok ((p, slots), rest)
  pub counted : counting_all p tables ≡ Ok q
  pub ordered : births_from (sum_by made_in slots) [] 0 q.objects ≡ Ok order
  pub named : names_in order (with_blocks list.waits q) ≡ Ok rows
  pub is : with_slots (with_blocks list.waits q) limits slots ≡ s

pub whole_steps : (limits : Limits) (tables : List (List (Option Entry))) (list : WaitList) (bytes : List ℕ)
    (s : ObjectsState) (rows : Rows) (rest : List ℕ) → whole_at limits tables list bytes ≡ Ok ((s, rows), rest) →
    IsWhole limits tables list bytes s rows rest
whole_steps limits tables list bytes s rows rest e = search arith

-- what waits that can be there keep
module _ (limit : ℕ) (threads : List (Option ℕ)) (s : ObjectsState) where
  abbrev stands : Option Wait → Bool
  stands w = wait_stands limit threads s w

  ids-there : (t : ℕ) (id : Id) (ids : List Id) → list_all (may_wait_for limit s t) ids ≡ true →
      0 < count_by (same_id id) ids → IsThere s.objects id
  ids-there t id ids all some = some_counts (λ x. cond (same_id id x) 1 0) nowhere ids _ (λ i lt here.
      let may = AllPass-from_list_all (may_wait_for limit s t) ids all i nowhere lt in
      let there : IsThere s.objects (get_or ids i nowhere) = search arith in
      rw (one_id id (get_or ids i nowhere) (grind (arith, nat_tests))) there) some

  wait-there : (id : Id) (w : Option Wait) → stands w ≡ true → 0 < blocks_in id w → IsThere s.objects id
  wait-there = search (arith, ids-there)

  wait-room : (w : Option Wait) → stands w ≡ true → WaitHasRoom limit s.seen.bodies w
  wait-room w e = grind (arith, AllPass-from_list_all)

  wait-unready : (w : Option Wait) → stands w ≡ true → is_ready s.seen.bodies w ≡ false
  wait-unready = search arith

  -- a wait that is kept so is one that can be there
  all-may-wait : (t : ℕ) (ids : List Id) → ((i : ℕ) → i < length ids → IsThere s.objects (get_or ids i nowhere)) →
      HasRoom limit t s.seen.bodies ids → list_all (may_wait_for limit s t) ids ≡ true
  all-may-wait t ids there room = all_from (may_wait_for limit s t) ids nowhere (λ i lt. search (arith, and_from, its_id, there i lt, room.each i lt))

  wait-taken : (w : Option Wait) → ((t : ℕ) → thread_of w ≡ Some t → IsLive threads t) →
      ((i : ℕ) → i < length (ids_of w) → IsThere s.objects (get_or (ids_of w) i nowhere)) →
      WaitHasRoom limit s.seen.bodies w → is_ready s.seen.bodies w ≡ false → stands w ≡ true
  wait-taken = search (arith, all-may-wait, and_from)

  pub all_taken : (tables : List (List (Option Entry))) (waits : List (Option Wait)) →
      IsNamed s.objects tables waits → AreOfLive threads s.seen.bodies waits → IsQuiet limit s.seen.bodies waits →
      all_stand limit threads waits s ≡ true
  all_taken tables waits named live quiet =
      and_from _ _ (all_from (λ (w : Option Wait). stands w) waits None
      (search (arith, wait-taken, place_counted, live.waiters, named.blocks, quiet.room.each, quiet.settled.each)))
      (all_from (owner_stands threads) s.seen.bodies None (search arith))

-- blocks that were counted by objects are counted by slots
pub blocks_counted : (s : ObjectsState) (tables : List (List (Option Entry))) (waits : List (Option Wait)) →
    ObjectsInvariant s → IsNamed s.objects tables waits →
    map (object_blocks waits) s.objects ≡ by_slot (length s.objects) (λ k. slot_blocks k waits)
blocks_counted s tables waits tied named = is_by_slot _ _ _ (length-map s.objects (object_blocks waits)) (λ k lt.
    grind (arith, get_or-map, blocks_vacant, blocks_are, tied.agreed.each k))

-- what objects keep that were read, where their waits and the owners of mutexes can be there
pub record IsKept (limits : Limits) (threads : List (Option ℕ)) (tables : List (List (Option Entry))) (list : WaitList)
    (s : ObjectsState) (rows : Rows) : Type 0 where
  pub shape : s.keeper.shape ≡ shape_of limits
  pub formed : AreFormed list.clock s.objects s.seen.bodies
  pub counted : IsCounted s.seen (length s.objects) tables list.waits
  pub named : IsNamed s.objects tables list.waits
  pub of_live : AreOfLive threads s.seen.bodies list.waits
  pub quiet : IsQuiet limits.max_recursion s.seen.bodies list.waits
  pub listing : IsListing rows tables s.objects s.births

pub read_kept : (limits : Limits) (threads : List (Option ℕ)) (tables : List (List (Option Entry))) (list : WaitList)
    (bytes : List ℕ) (s : ObjectsState) (rows : Rows) (rest : List ℕ)
    → whole_at limits tables list bytes ≡ Ok ((s, rows), rest) → ObjectsInvariant s
    → all_stand limits.max_recursion threads list.waits s ≡ true → IsKept limits threads tables list s rows
read_kept limits threads tables list bytes s rows rest read tied all =
    let w = whole_steps limits tables list bytes s rows rest read in
    let r = are_read limits list.clock bytes w.p w.slots rest w.read in
    let c = counts w.q tables r w.counted in
    let each = λ (n : ℕ). all_at (wait_stands limits.max_recursion threads s) list.waits None refl
    (and_parts _ (owners_stand threads s) all).0 n in
    let named : IsNamed s.objects tables list.waits = record {
      entries = λ id some. rw (← w.is, c.same) (c.named id some);
      blocks = λ id some. some_counts (blocks_in id) None list.waits _
          (λ n lt. wait-there limits.max_recursion threads s id _ (each n)) some;
    } in
    let counted : IsCounted s.seen (length s.objects) tables list.waits =
    grind (arith, blocks_counted, read_handles r c, w.is) in
    let ordered = subst (λ (z : ObjectsState). births_from z.births [] 0 z.objects ≡ Ok w.order) w.is w.ordered in
    record {
      shape = rw (← w.is);
      formed = rw (← w.is) (read_formed r c);
      counted = counted;
      named = named;
      of_live = search (arith, all_at, each);
      quiet = search (arith, wait-room, wait-unready, each);
      listing = names_sound s _ _ w.order _ tied counted named ordered (search (arith, w.named, w.is));
    }
