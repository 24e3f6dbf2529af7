-- One header changed: what becomes of the lists that are read off the headers.
use Rattle.ob_store.proofs.Cited.{◌≡◌, ℕ, ◌-◌, ◌+◌, ◌<◌, List, length, Option, Some, None, ap, sym, ◌∙◌, arith, get_or, set, map, replicate, Bool, true, false, eqb, IfSome, IsSome, map-set_same, padded, Id, Body, map-replicate, slot_acquired, without_block, ObjectHeader, with_blocks_at, length-map, get_or-map, get_or_past, get_or-set_same, set-get_or, Slots, is_vacant_at, Object, Places, places_of, Tag, object_of, objects_in, header_body, vacancy, vacant_places, with_handle, without_handle, without_header, no_tag, map-set, padded_length, least_vacant, vacant_count, rest_of, seen_in, header_handles, header_blocks, header_handle_left, header_block_left, with_header_of, with_block, is_last_handle}
use Rattle.ob_arena.proofs.SlotLemmas.{vacant_least}
use Rattle.ob_store.proofs.LabelLaws.{object_read, objects_kept, objects_padded, objects_length, objects_none, objects_out, objects_put, header_there}

-- what a list that is read off another has at a place
pub read : {A B : Type 0} (f : Option A → B) (xs : List (Option A)) (k : ℕ)
    → get_or (map f xs) k (f None) ≡ f (get_or xs k None)
read f xs k = search (arith, get_or-map, get_or_past, length-map)

-- a list that is read off the headers, where one header changes
module _ {B : Type 0} (f : Option ObjectHeader → B) (xs : List (Option ObjectHeader)) (ys : List B) (k : ℕ) where
  pub mapped_set : (y : Option ObjectHeader) (b : B) → ys ≡ map f xs → b ≡ f y → set ys k b ≡ map f (set xs k y)
  mapped_set y b is at = search (arith, map-set)

  pub mapped_same : (y : Option ObjectHeader) → ys ≡ map f xs → f y ≡ f (get_or xs k None) → ys ≡ map f (set xs k y)
  mapped_same y is same = search (arith, map-set_same)

  pub mapped_stays : (x y : ObjectHeader) → ys ≡ map f xs → get_or xs k None ≡ Some x → f (Some y) ≡ f (Some x)
      → ys ≡ map f (set xs k (Some y))
  mapped_stays x y is there same = search (arith, mapped_same)

-- a header in its place, and one that differs from it
module _ (xs : List (Option ObjectHeader)) (k : ℕ) (x : ObjectHeader) (is : get_or xs k None ≡ Some x) where
  -- what is read off it, and what stays as it was
  at-header : {B : Type 0} (f : Option ObjectHeader → B) → get_or (map f xs) k (f None) ≡ f (Some x)
  at-header f = search (arith, read)

  stays : {B : Type 0} (f : Option ObjectHeader → B) (y : ObjectHeader) → f (Some y) ≡ f (Some x)
      → map f (set xs k (Some y)) ≡ map f xs
  stays f y same = search (arith, map-set_same)

  -- where the object stays
  objects-stay : (ls : List Tag) (y : ObjectHeader) → ((l : Tag) → object_of y l ≡ object_of x l)
      → objects_in (set xs k (Some y)) ls ≡ objects_in xs ls
  objects-stay ls y same = objects_kept xs ls k (Some y) (λ l. rw is (ap Some (same l)))

  -- a thread acquires it
  pub seen_acquired : (thread : ℕ) → seen_in (set xs k (Some (record x { body = slot_acquired thread x.body })))
      ≡ record (seen_in xs) { bodies = set (map header_body xs) k (slot_acquired thread (get_or (map header_body xs) k None)) }
  seen_acquired thread = search (arith, stays, at-header header_body, map-set)

  pub seen_put : (b : Body) → seen_in (set xs k (Some (record x { body = Some b })))
      ≡ record (seen_in xs) { bodies = set (map header_body xs) k (Some b) }
  seen_put b = search (arith, stays, map-set)

  pub seen_block_left : seen_in (set xs k (Some (header_block_left x)))
      ≡ without_block (seen_in xs) (record { slot = k; generation = 0 })
  seen_block_left = search (arith, at-header header_handles, at-header header_blocks, stays, map-set)

  -- all that is read off the headers
  module _ (retired : List Bool) (ls : List Tag) where
    abbrev before : Places
    before = places_of (record { bodies = xs; retired = retired }) ls

    abbrev after : ObjectHeader → Places
    after y = places_of (record { bodies = set xs k (Some y); retired = retired }) ls

    pub places_handle_came : after (record x { handles = x.handles + 1 }) ≡ with_handle before k
    places_handle_came = search (arith, at-header header_handles, objects-stay, stays, map-set)

    pub places_block_came : after (record x { blocks = x.blocks + 1 }) ≡ with_block before k
    places_block_came = search (arith, at-header header_blocks, objects-stay, stays, map-set)

    pub places_blocks : (n : ℕ) → after (record x { blocks = n }) ≡ with_blocks_at before k n
    places_blocks n = search (arith, objects-stay, stays, map-set)

    last_is : is_last_handle before k ≡ eqb ((x.handles - 1) + x.blocks) 0
    last_is = search (arith, at-header header_handles, at-header header_blocks)

    pub places_handle_left : after (header_handle_left x) ≡ without_handle before k
    places_handle_left = search (arith, at-header header_handles, objects-stay, stays, map-set, last_is)

    pub places_handle_fewer : 1 < get_or (map header_handles xs) k 0 → after (record x { handles = x.handles - 1 })
        ≡ without_handle before k
    places_handle_fewer more = search (arith, at-header header_handles, places_handle_left)

    -- what waits leave as it is
    pub rest_same : (y z : ObjectHeader) → y ≡ z → ((l : Tag) → object_of z l ≡ object_of x l) → z.handles ≡ x.handles
        → rest_of (after y) ≡ rest_of before
    rest_same y z is object handles = rw is (search (arith, objects-stay, stays))

-- a slot with an object has a header
pub header_of : (s : Slots ObjectHeader) (ls : List Tag) (p : Places) (k : ℕ) → places_of s ls ≡ p
    → IsSome (get_or p.objects k None) → IsSome (get_or s.bodies k None)
header_of s ls p k view there = header_there _ ls k (rw (← view) at there)

-- vacancy is that of the arena
pub vacant_same : (s : Slots ObjectHeader) (ls : List Tag) (k : ℕ)
    → is_vacant_at (vacancy (places_of s ls)) k ≡ is_vacant_at s k
vacant_same s ls k = search (arith, object_read, objects_length)

pub least_same : (s : Slots ObjectHeader) (ls : List Tag) → least_vacant s ≡ least_vacant (vacancy (places_of s ls))
least_same s ls = search (arith, vacant_same, objects_length)

pub count_same : (s : Slots ObjectHeader) (ls : List Tag) → vacant_count s ≡ vacant_count (vacancy (places_of s ls))
count_same s ls = search (arith, vacant_same, objects_length)

pub least_is : (s : Slots Object) (r : Option ℕ) → r ≡ least_vacant s → IfSome r (λ slot. is_vacant_at s slot ≡ true)
least_is = search (arith, vacant_least)

-- an object that comes to a vacant slot
pub places_added : (s : Slots ObjectHeader) (ls : List Tag) (k : ℕ) (y : ObjectHeader) (m : Tag) (body : Option Body)
    (handles : ℕ)
    → y.body ≡ body → y.handles ≡ handles → y.blocks ≡ 0
    → places_of (record s { bodies = set s.bodies k (Some y) }) (set (padded no_tag (k + 1) ls) k m)
    ≡ with_header_of (places_of s ls) k (object_of y m) body handles
places_added s ls k y m body handles has counts none =
    search (arith, map-set, padded_length, objects_put, objects_padded)

-- and its handles
pub added_handle : (xs : List (Option ObjectHeader)) (k : ℕ) (y : ObjectHeader) → k < length xs
    → get_or (map header_handles (set xs k (Some y))) k 0 ≡ y.handles
added_handle xs k y within = search (arith, read, get_or-set_same)

-- an object that leaves
pub places_removed : (s : Slots ObjectHeader) (ls : List Tag) (k : ℕ)
    → places_of (record s { bodies = set s.bodies k None }) ls ≡ without_header (places_of s ls) k
places_removed s ls k = search (arith, map-set, objects_out)

-- a slot without a header has nothing to lose
module _ (xs : List (Option ObjectHeader)) (id : Id) (none : get_or xs id.slot None ≡ None) where
  nothing-set : {B : Type 0} (f : Option ObjectHeader → B) → set (map f xs) id.slot (f None) ≡ map f xs
  nothing-set f =
      ap (set (map f xs) id.slot) (sym (read f xs id.slot ∙ ap f none)) ∙ set-get_or (map f xs) id.slot (f None)

  nothing-there : {B : Type 0} (f : Option ObjectHeader → B) → get_or (map f xs) id.slot (f None) ≡ f None
  nothing-there f = search (arith, read, none)

  pub seen_absent : seen_in xs ≡ without_block (seen_in xs) id
  seen_absent = search (
    arith,
    nothing-set header_body,
    nothing-set header_blocks,
    nothing-there header_handles,
    nothing-there header_blocks,
  )

pub places_vacant : (n : ℕ) (ls : List Tag) → places_of (record { bodies = replicate n None; retired = replicate n false }) ls
    ≡ vacant_places n
places_vacant n ls = search (arith, map-replicate, objects_none)
