-- Each Id that is named goes on being that of an object; and what a slot counts is what its object's Id counts.
use Rattle.ob_store.proofs.Cited.{nat_tests, CountedBodies, at_place, ◌≡◌, ℕ, suc, ◌<◌, ◌≤◌, List, [], ◌∷◌, length, Option, Some, None, refl, arith, get_or, set, cond, eqb, sum_by, get_or_past, sum_by-cons, get_or-le-sum_by, same_id, Id, HandleFlags, Entry, handles_among, slot_handles, table_of, with_table, with_entry_of, with_flags_of, without_entry_of, Wait, Object, IsThere, IsNamed, entry_at, some_within, handles_among-with_table, nowhere, ids_of, slot_blocks, blocks_among}
use Rattle.ob_tables.specs.Table.{at}
use Rattle.ob_tables.proofs.Counting.{same_id-same, found_counts, handles_among-with_entry, handles_among-with_flags, handles_among-without_entry}
use Rattle.ob_tables.proofs.SlotCounts.{slot_handles-one}
use Rattle.ob_waits.specs.Waits.{settled, blocks_in}
use Rattle.ob_waits.proofs.Counted.{blocks_settled}

-- the object of an Id is in its slot
pub there_some : (objects : List (Option Object)) (id : Id) → IsThere objects id
    → (o : Object) × (get_or objects id.slot None ≡ Some o) × (o.id ≡ id)
there_some objects id h = search arith

pub there_within : (objects : List (Option Object)) (id : Id) → IsThere objects id → id.slot < length objects
there_within objects id h = search (arith, some_within)

-- a slot has one object
pub one_there : (objects : List (Option Object)) (a b : Id) → IsThere objects a → IsThere objects b → a.slot ≡ b.slot
    → a ≡ b
one_there objects a b ha hb same = search arith

pub sum_same : {X : Type 0} (f g : X → ℕ) (d : X) (xs : List X)
    → ((i : ℕ) → i < length xs → f (get_or xs i d) ≡ g (get_or xs i d)) → sum_by f xs ≡ sum_by g xs
sum_same f g d [] each = refl
sum_same f g d (x ∷ xs) each = grind (arith, sum_by-cons, each 0, sum_same f g d xs (λ i lt. each (suc i) (omega arith)))

pub sum_none : {X : Type 0} (f : X → ℕ) (d : X) (xs : List X) → ((i : ℕ) → i < length xs → f (get_or xs i d) ≡ 0)
    → sum_by f xs ≡ 0
sum_none f d [] each = refl
sum_none f d (x ∷ xs) each = search (arith, sum_by-cons, each 0, sum_none f d xs (λ i lt. each (suc i) (omega arith)))

-- what is counted stands somewhere
pub some_counts : {X : Type 0} (f : X → ℕ) (d : X) (xs : List X) (P : Type 0)
    → ((i : ℕ) → i < length xs → 0 < f (get_or xs i d) → P) → 0 < sum_by f xs → P
some_counts f d [] P each h = absurd (omega arith)
some_counts f d (x ∷ xs) P each h = grind (arith, sum_by-cons f x xs, each 0, some_counts f d xs P (λ i lt. each (suc i) (omega arith)))

-- no more is named than before
pub named_fewer : (objects : List (Option Object)) (ts ts' : List (List (Option Entry))) (ws ws' : List (Option Wait))
    → ((id : Id) → handles_among id ts' ≤ handles_among id ts) → ((id : Id) → blocks_among id ws' ≤ blocks_among id ws)
    → IsNamed objects ts ws → IsNamed objects ts' ws'
named_fewer objects ts ts' ws ws' fewer less n = search arith

module _ (objects : List (Option Object)) (ts : List (List (Option Entry))) (ws : List (Option Wait))
    (named : IsNamed objects ts ws) where
  -- the Id of an entry
  pub named_entry : (p value : ℕ) (e : Entry) → entry_at (table_of ts p) value ≡ Some e → IsThere objects e.id
  named_entry p value e found = search (arith, found_counts, named.entries)

  pub named_placed : (p : ℕ) (e : Entry) → p < length ts → 0 < handles_among e.id ts
      → IsNamed objects (with_entry_of ts p e) ws
  named_placed p e table some = search (arith, handles_among-with_entry)

  -- an object comes to an empty slot, with its entry
  pub named_added : (p : ℕ) (e : Entry) (o : Object) → p < length ts → o.id ≡ e.id
      → get_or objects e.id.slot None ≡ None → e.id.slot < length objects
      → IsNamed (set objects e.id.slot (Some o)) (with_entry_of ts p e) ws
  named_added p e o table own none within =
      grind (arith, nat_tests, at_place, handles_among-with_entry, named.entries, named.blocks)

  -- an entry leaves
  pub named_removed : (p value : ℕ) (e : Entry) → entry_at (table_of ts p) value ≡ Some e
      → IsNamed objects (without_entry_of ts p value) ws
  named_removed p value e found =
      let fewer = λ (id : Id). handles_among-without_entry id ts p value e found in
      search (arith, fewer, named_fewer)

  -- an entry has other flags
  pub named_flags : (p value : ℕ) (e : Entry) (flags : HandleFlags) → entry_at (table_of ts p) value ≡ Some e
      → IsNamed objects (with_flags_of ts p value flags) ws
  named_flags p value e flags found = search (arith, handles_among-with_flags)

  -- a process comes
  pub named_process : (k : ℕ) → table_of ts k ≡ [] → IsNamed objects (with_table ts k None) ws
  named_process k none = search (arith, handles_among-with_table)

  -- the waits settle
  pub named_settled : (objects' : CountedBodies)
      → IsNamed objects ts (settled (record { objects = objects'; waits = ws })).waits
  named_settled objects' = search (arith, blocks_settled)

  -- whether a slot is an object's, and whether an Id is
  ids_agree : (x id : Id) → IsThere objects x → IsThere objects id → eqb x.slot id.slot ≡ same_id id x
  ids_agree x id hx hid = search arith

  -- what stands in a table is counted
  pub entry_counted : (p i : ℕ) (e : Entry) → at (table_of ts p) i ≡ Some e → 0 < handles_among e.id ts
  entry_counted p i e is = search (arith, get_or_past, get_or-le-sum_by)

  -- the handles of an object's slot are its own
  pub handles_are : (id : Id) → IsThere objects id → slot_handles id.slot ts ≡ handles_among id ts
  handles_are id there = search (arith, slot_handles-one, entry_counted, named.entries)

  pub place_counted : (n i : ℕ) → n < length ws → i < length (ids_of (get_or ws n None))
      → 0 < blocks_among (get_or (ids_of (get_or ws n None)) i nowhere) ws
  place_counted n i lt in' =
      let x = get_or (ids_of (get_or ws n None)) i nowhere in
      let a = get_or-le-sum_by (λ (y : Id). cond (same_id x y) 1 0) (ids_of (get_or ws n None)) i nowhere in' in
      grind (arith, a, same_id-same x, get_or-le-sum_by (blocks_in x) ws n None lt)

  -- and so are the blocks
  pub blocks_are : (id : Id) → IsThere objects id → slot_blocks id.slot ws ≡ blocks_among id ws
  blocks_are id there =
      sum_same _ _ _ ws (λ n lt. sum_same _ _ _ _ (λ i in'. let x = get_or (ids_of (get_or ws n None)) i nowhere in
      λ j. cond (ids_agree x id (named.blocks x (place_counted n i lt in')) there j) 1 0))

  -- no wait names a slot without an object
  pub blocks_vacant : (k : ℕ) → get_or objects k None ≡ None → slot_blocks k ws ≡ 0
  blocks_vacant k none = sum_none _ _ ws
      (λ n lt. sum_none _ _ _
      (λ i in'. let x = get_or (ids_of (get_or ws n None)) i nowhere in
      other x (named.blocks x (place_counted n i lt in'))))
    where
      other : (x : Id) → IsThere objects x → ◌≡◌ {A = ℕ} (cond (eqb x.slot k) 1 0) 0
      other x there = search arith

  -- as past the last
  pub blocks_past : (k : ℕ) → length objects ≤ k → slot_blocks k ws ≡ 0
  blocks_past k le = search (arith, blocks_vacant, get_or_past)

-- an object to which nothing refers leaves its slot
pub named_left : (objects : List (Option Object)) (ts : List (List (Option Entry))) (ws : List (Option Wait)) (id : Id)
    → IsThere objects id → handles_among id ts ≡ 0 → blocks_among id ws ≡ 0 → IsNamed objects ts ws
    → IsNamed (set objects id.slot None) ts ws
named_left objects ts ws id there handles blocks n = grind (arith, at_place)

-- nothing is named yet
pub named_opening : (objects : List (Option Object)) → IsNamed objects ([] ∷ []) (None ∷ [])
named_opening objects = search arith
