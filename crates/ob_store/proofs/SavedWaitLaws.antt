-- The blocks that are counted of objects that were read, and the tests of their waits and owners.
use Rattle.ob_store.proofs.Cited.{◌≡◌, ℕ, ◌+◌, ◌<◌, ◌≤◌, Bool, true, List, length, get_or, map, Option, Some, None, refl, sym, ap, ◌∙◌, arith, ext_get_or, get_or-map, length-map, set-get_or, Slots, Wait, ObjectHeader, blocks_among, ObjectsState, Places, Tag, places_of, wait_stands, with_blocks, with_blocks_at, ltb-true, position-Some, WaitsInvariant, are_within, is_within, header_blocks, object_blocks, wait_of, waits_stand}
use Rattle.ob_waits.proofs.TrackedLaws.{no_number, waits_thread}
use Rattle.ob_store.proofs.LabelLaws.{object_read}
use Rattle.ob_store.proofs.ByPlace.{all_at, all_from}
use Rattle.ob_store.proofs.HeaderLaws.{read}

module _ (s : Slots ObjectHeader) (tags : List Tag) (k : ℕ) (waits : List (Option Wait)) where
  pub blocks_vacant : get_or s.bodies k None ≡ None →
      places_of s tags ≡ with_blocks_at (places_of s tags) k
      (object_blocks waits (get_or (places_of s tags).objects k None))
  blocks_vacant none =
      let p = places_of s tags in
      let counted : object_blocks waits (get_or p.objects k None) ≡ get_or p.seen.blocks k 0 =
      search (arith, object_read, read header_blocks s.bodies k, none) in
      search (arith, set-get_or)

  pub blocks_with_header : (x : ObjectHeader) → get_or s.bodies k None ≡ Some x →
      object_blocks waits (get_or (places_of s tags).objects k None) ≡ blocks_among x.id waits
  blocks_with_header x is = search (arith, object_read)

-- the blocks of the slots below one are counted, and all else is as it was
pub record HasCounted (waits : List (Option Wait)) (p : Places) (slot : ℕ) (q : Places) : Type 0 where
  pub same : q ≡ record p { seen = record p.seen { blocks = q.seen.blocks } }
  pub length_is : length q.seen.blocks ≡ length p.objects
  pub done : (k : ℕ) → k < slot → k < length p.objects → get_or q.seen.blocks k 0 ≡
      object_blocks waits (get_or p.objects k None)

module _ (waits : List (Option Wait)) (p q : Places) (slot : ℕ) (h : HasCounted waits p slot q) where
  pub counts_end : length p.objects ≤ slot → q ≡ with_blocks waits p
  counts_end all =
      let same : q.seen.blocks ≡ map (object_blocks waits) p.objects = ext_get_or 0 _ _
      (search (arith, length-map, h.length_is)) (search (arith, h.done, get_or-map, h.length_is)) in
      search arith

module _ (limit : ℕ) (threads : List (Option ℕ)) (s : ObjectsState) (waits : List (Option Wait)) where
  abbrev stands : Option Wait → Bool
  stands w = wait_stands limit threads s w

  -- each wait is that of its thread
  its-wait : WaitsInvariant waits → (n : ℕ) (w : Wait) → get_or waits n None ≡ Some w → wait_of w.thread waits ≡ Some w
  its-wait kept n w is = search (arith, position-Some, waits_thread, no_number)

  pub waits_next : (t : ℕ) → ((u : ℕ) → u < t → stands (wait_of u waits) ≡ true) → stands (wait_of t waits) ≡ true →
      (u : ℕ) → u < t + 1 → stands (wait_of u waits) ≡ true
  waits_next t before own u lt = grind (arith, before u)

  pub waits_pass : (bound slots : ℕ) → WaitsInvariant waits → are_within bound slots waits ≡ true →
      ((t : ℕ) → t < bound → stands (wait_of t waits) ≡ true) → waits_stand limit threads waits s ≡ true
  waits_pass bound slots kept within each = all_from (λ (w : Option Wait). stands w) waits None
      (λ n lt. by n (get_or waits n None) refl (all_at (is_within bound slots) waits None refl within n))
    where
      by : (n : ℕ) (w : Option Wait) → get_or waits n None ≡ w → is_within bound slots (get_or waits n None) ≡ true
          → stands w ≡ true
      by n None is here = refl
      by n (Some w) is here = ap (λ (x : Option Wait). stands x) (sym (its-wait kept n w is)) ∙ each w.thread (search (arith, ltb-true))
