-- What is stored of references goes on being what is counted, as each change changes both.
use Rattle.ob_store.proofs.Cited.{◌≡◌, Id, without_blocks, ℕ, ◌+◌, ◌-◌, ◌<◌, List, [], ◌∷◌, length, Option, Some, None, ◌∙◌, arith, get_or, set, Body, HandleFlags, Entry, entry_at, slot_handles, table_of, with_table, with_entry_of, with_flags_of, without_entry_of, IsBounded, Wait, CountedBodies, IsCounted, slot_handles-few, Scene, slot_blocks, replicate}
use Rattle.ob_tables.proofs.SlotCounts.{one_in-same, one_in-other, slot_handles-with_entry, slot_handles-without_entry, slot_handles-with_flags, slot_handles-with_table}
use Rattle.ob_waits.specs.Waits.{slot_places, settled}
use Rattle.ob_waits.proofs.Ends.{sizes_left, sizes_settled}
use Rattle.ob_waits.proofs.References.{left_all, settled_counts}
use Rattle.ob_store.proofs.BySlot.{count_at, count_few, counts_long, recounted, recounted_one, zero_counts}

module _ (seen : CountedBodies) (n : ℕ) (ts : List (List (Option Entry))) (ws : List (Option Wait))
    (counted : IsCounted seen n ts ws) where
  pub handles_at : (k : ℕ) → k < n → get_or seen.handles k 0 ≡ slot_handles k ts
  handles_at k lt = search (arith, count_at)

  pub blocks_at : (k : ℕ) → k < n → get_or seen.blocks k 0 ≡ slot_blocks k ws
  blocks_at k lt = search (arith, count_at)

  pub handles_long : length seen.handles ≡ n
  handles_long = search (arith, counts_long)

  pub blocks_long : length seen.blocks ≡ n
  blocks_long = search (arith, counts_long)

  -- no slot counts more handles than the tables have places
  pub handles_few : (processes handles k : ℕ) → IsBounded processes handles ts → get_or seen.handles k 0 < 4294967295
  handles_few processes handles k b = omega (arith, count_few _ n _ k counted.handles, slot_handles-few k _ _ ts b)

  -- an entry comes
  pub counted_placed : (p : ℕ) (e : Entry) → p < length ts
      → IsCounted (record seen { handles = set seen.handles e.id.slot (get_or seen.handles e.id.slot 0 + 1) }) n
      (with_entry_of ts p e) ws
  counted_placed p e table = search (arith, handles_at, recounted_one, slot_handles-with_entry)

  -- a new object comes with an entry, to a slot that counted nothing
  pub counted_added : (bodies : List (Option Body)) (p : ℕ) (e : Entry) → p < length ts → e.id.slot < n
      → get_or seen.handles e.id.slot 0 ≡ 0 → get_or seen.blocks e.id.slot 0 ≡ 0
      → IsCounted (record {
        bodies = bodies;
        handles = set seen.handles e.id.slot 1;
        blocks = set seen.blocks e.id.slot 0;
      }) n (with_entry_of ts p e) ws
  counted_added bodies p e table within handles blocks = search (arith, handles_at, blocks_at, recounted_one, slot_handles-with_entry)

  -- an entry leaves
  pub one_less : (p value : ℕ) (e : Entry) → entry_at (table_of ts p) value ≡ Some e
      → slot_handles e.id.slot (without_entry_of ts p value) + 1 ≡ slot_handles e.id.slot ts
  one_less p value e found = omega (arith, slot_handles-without_entry e.id.slot ts p value e found, one_in-same e)

  pub counted_removed : (bodies : List (Option Body)) (p value : ℕ) (e : Entry)
      → entry_at (table_of ts p) value ≡ Some e
      → IsCounted (record {
        bodies = bodies;
        handles = set seen.handles e.id.slot (get_or seen.handles e.id.slot 0 - 1);
        blocks = seen.blocks;
      }) n (without_entry_of ts p value) ws
  counted_removed bodies p value e found = record {
    handles = recounted_one _ n _ _ _ _ counted.handles
        (λ k other. omega (arith, slot_handles-without_entry k ts p _ e found, one_in-other e k other)) (search (arith, handles_at, one_less));
    blocks = counted.blocks;
  }

  -- an entry has other flags
  pub counted_flags : (p value : ℕ) (e : Entry) (flags : HandleFlags) → entry_at (table_of ts p) value ≡ Some e
      → IsCounted seen n (with_flags_of ts p value flags) ws
  counted_flags p value e flags found = search (arith, slot_handles-with_flags)

  -- a process comes
  pub counted_process : (k : ℕ) → table_of ts k ≡ [] → IsCounted seen n (with_table ts k None) ws
  counted_process k none =
      let same = λ (slot : ℕ). slot_handles-with_table slot ts k None none in
      search (arith, same)

  -- blocks leave
  pub counted_unblocked : (ids : List Id) (ws' : List (Option Wait))
      → ((k : ℕ) → slot_blocks k ws' + slot_places k ids ≡ slot_blocks k ws) → IsCounted (without_blocks seen ids) n ts ws'
  counted_unblocked ids ws' fewer = record {
    handles = (sizes_left ids seen).handles ∙ counted.handles;
    blocks = recounted _ _ n _ _ counted.blocks (sizes_left ids seen).blocks (search (arith, blocks_at, left_all, fewer));
  }

  -- the waits settle
  pub counted_settled : IsCounted (settled (record { objects = seen; waits = ws })).objects n ts
      (settled (record { objects = seen; waits = ws })).waits
  counted_settled =
      let first : Scene = record { objects = seen; waits = ws } in
      let sizes = sizes_settled first in
      let counts = settled_counts first in
      search (arith, recounted, sizes, counts.each, blocks_at, counted.handles, counted.blocks)

-- nothing refers to anything yet
pub counted_opening : (n : ℕ) → IsCounted (record {
  bodies = replicate n None;
  handles = replicate n 0;
  blocks = replicate n 0;
}) n ([] ∷ []) (None ∷ [])
counted_opening n = search (arith, zero_counts)
