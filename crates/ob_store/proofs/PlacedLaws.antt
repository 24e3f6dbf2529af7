-- What a slot counts refers to its object; and a thread's process has its table.
use Rattle.ob_store.proofs.Cited.{nat_tests, at_place, ◌≡◌, ℕ, ◌<◌, List, length, Option, Some, None, sym, arith, get_or, get_or_past, handles_among, blocks_among, Entry, Limits, IsLive, ProcessesKept, ProcessesState, Object, ObjectsState, object_of, tag_of, ObjectsInvariant, IsSound, IsThere, PartsState, IfSome}
use Rattle.std.specs.Prelude.{OnSome}
use Rattle.std.specs.Option.{option_map}
use Rattle.ob_store.specs.declared.found.Found.{Found}
use Rattle.ob_store.proofs.AgreeLaws.{body_at, object_within}
use Rattle.ob_store.proofs.CountedLaws.{handles_at, blocks_at}
use Rattle.ob_store.proofs.NamedLaws.{there_within, handles_are, blocks_are}
use Rattle.ob_store.proofs.ListingLaws.{placed_agreed}

-- nothing refers to a slot without a body
pub unreferenced : (s : ObjectsState) (k : ℕ) → body_at s k ≡ None → ObjectsInvariant s
    → (get_or s.seen.handles k 0 ≡ 0) × (get_or s.seen.blocks k 0 ≡ 0)
unreferenced s k none tied = search arith

-- a slot's object has an Id of that slot
pub placed_there : (s : ObjectsState) → ObjectsInvariant s → (k : ℕ) (o : Object) → get_or s.objects k None ≡ Some o
    → IsThere s.objects o.id
placed_there s tied k o at = search (arith, placed_agreed)

module _ (p : PartsState) (sound : IsSound p) (tied : ObjectsInvariant p.objects) (k : ℕ) where
  -- what the slot counts is what its object's Id counts
  module _ (o : Object) (at : get_or p.objects.objects k None ≡ Some o) where
    own : o.id.slot ≡ k
    own = search (arith, placed_agreed)

    pub own_handles : get_or p.objects.seen.handles k 0 ≡ handles_among o.id p.tables.tables
    own_handles = rw (← own) (search (arith, handles_at, handles_are, there_within, placed_there, sound.counted, sound.named))

    pub own_blocks : get_or p.objects.seen.blocks k 0 ≡ blocks_among o.id p.waits.waits
    own_blocks = rw (← own) (search (arith, blocks_at, blocks_are, there_within, placed_there, sound.counted, sound.named))

  -- and so does what is seen there
  pub seen_handles : (x : Option Found) → get_or p.objects.objects k None
      ≡ option_map (λ (found : Found). object_of found.header.now (tag_of found.label.now found.name.now)) x
      → IfSome x (λ (found : Found). get_or p.objects.seen.handles k 0 ≡ found.header.now.handles)
      → IfSome x (λ (found : Found). found.header.now.handles ≡ handles_among found.header.now.id p.tables.tables)
  seen_handles None at is = tt
  seen_handles (Some found) at is = search (arith, own_handles)

  pub seen_blocks : (x : Option Found) → get_or p.objects.objects k None
      ≡ option_map (λ (found : Found). object_of found.header.now (tag_of found.label.now found.name.now)) x
      → IfSome x (λ (found : Found). get_or p.objects.seen.blocks k 0 ≡ found.header.now.blocks)
      → IfSome x (λ (found : Found). found.header.now.blocks ≡ blocks_among found.header.now.id p.waits.waits)
  seen_blocks None at is = tt
  seen_blocks (Some found) at is = search (arith, own_blocks)

  -- a slot in which something is seen is within the limit
  pub seen_within : (x : Option Found) → get_or p.objects.objects k None
      ≡ option_map (λ (found : Found). object_of found.header.now (tag_of found.label.now found.name.now)) x
      → IfSome x (λ (found : Found). k < p.limits.slots)
  seen_within = grind (arith, nat_tests, at_place, object_within)

-- a live number is one of those given
pub live_within : (numbers : List (Option ℕ)) (n : ℕ) → IsLive numbers n → n < length numbers
live_within numbers n live = search (arith, get_or_past)

module _ (limits : Limits) (l : ProcessesState) (tables : List (List (Option Entry))) where
  -- a live process has its table
  pub live_tabled : (process : ℕ) → ProcessesKept limits l tables → IsLive l.processes process → process < length tables
  live_tabled process kept live = search (arith, live_within)

  pub process_tabled : (process : ℕ) (x : Option ℕ) → ProcessesKept limits l tables → x ≡ get_or l.processes process None
      → OnSome x (process < length tables)
  process_tabled = grind (arith, nat_tests, at_place)

  -- the process of a live thread has its table
  pub thread_tabled : (thread : ℕ) (x : Option ℕ) → ProcessesKept limits l tables → x ≡ get_or l.threads thread None
      → IfSome x (λ p. p < length tables)
  thread_tabled thread None kept is = tt
  thread_tabled thread (Some p) kept is = live_tabled p kept (kept.live thread p (sym is))
