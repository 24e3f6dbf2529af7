-- The names that are entered go on being the directory, and distinct, as handles and objects come and leave.
use Rattle.ob_store.proofs.Cited.{HandleFlags, Id, same_id, ObjectName, Row, Entry, handles_among, handles_in, entry_at, Object, ObjectsState, AreBorn, IsAgreed, rows_of, IsListing, ◌≡◌, ℕ, ◌+◌, ◌<◌, ◌≤◌, [], ◌∷◌, ◌++◌, length, replicate, Some, None, refl, ap, ◌∙◌, sym, subst, arith, get_or, set, Bool, true, false, not, ◌&&◌, inl, inr, Option, Contains, cases_lt, append-nil, get_or_past, AreDistinct, Rows, find_name, table_of, with_entry_of, with_flags_of, with_table, without_entry_of, handles_among-with_table, some_within, is_some, both_ways, All, filter, keys_of, ltb-true, map-append, set_past, All-from_recursion, All-tail, Contains-get_or, IsDistinct-push, IsDistinct-tail, same_name, without_name, same_name-Decides, same_name_equiv, new_table, found_counts, handles_among-with_entry, handles_among-with_flags, handles_among-without_entry, handles_in-among, handles_in-inherited, one_of}
use Rattle.std.specs.List.{IsDistinct}
use Rattle.std.proofs.lemmas.Map.Entries.{none_past_head}
use Rattle.std.proofs.lemmas.Map.Made.{IsDistinct-keys_filter, is_some-lookup}
use Rattle.std.proofs.lemmas.Map.Views.{Contains-from_lookup, lookup-from_Contains}
use Rattle.ob_store.proofs.DirectoryLaws.{IsRow, ObjectSlots, Tables, first_goes, has_handles, is_of_other, others_stay, row_there, rows_added, rows_are, rows_gone, rows_left, rows_same}

-- each object stands in the slot of its Id
abbrev pub ArePlaced : ObjectSlots → Type 0
ArePlaced objects = (k : ℕ) (o : Object) → get_or objects k None ≡ Some o → o.id.slot ≡ k

-- one table's handles are among all, also where there is no such table
table_among : (id : Id) (ts : Tables) (p : ℕ) → handles_in id (table_of ts p) ≤ handles_among id ts
table_among id ts p = search (arith, get_or_past, handles_in-among)

-- what a child inherits is of objects that have handles
new_has : (id : Id) (ts : Tables) (from : Option ℕ) → handles_in id (new_table ts from) ≤ handles_among id ts
new_has id ts None = omega arith
new_has id ts (Some from) = omega (arith, table_among id ts from, handles_in-inherited id (table_of ts from))

-- tables that differ by an entry: where its object has handles without it, the same objects have handles
still_has : (more fewer : Tables) (e : Entry) (id : Id) (b : Bool) → same_id id e.id ≡ b
    → handles_among id fewer + one_of id e ≡ handles_among id more → 0 < handles_among e.id fewer
    → has_handles id fewer ≡ has_handles id more
still_has = search arith

-- else its object alone has none any more
none_left : (more fewer : Tables) (e : Entry) (id : Id) (b : Bool) → same_id id e.id ≡ b
    → handles_among id fewer + one_of id e ≡ handles_among id more → handles_among e.id fewer ≡ 0
    → has_handles id fewer ≡ (not b && has_handles id more)
none_left = search arith

-- a name that isn't there comes last
pub distinct_with : (rows : Rows) (name : ObjectName) (id : Id) → AreDistinct rows → find_name name rows ≡ None
    → AreDistinct (rows ++ (name, id) ∷ [])
distinct_with rows name id distinct absent =
    rw map-append (IsDistinct-push same_name_equiv _ _ distinct (sym (is_some-lookup (same_name name) rows) ∙ ap is_some absent))

-- where rows have the Id just if they have the name, those without the name are those without the Id
name_goes : (name : ObjectName) (id : Id) (rows : Rows) → AreDistinct rows
    → All (λ (row : Row). same_id row.1 id ≡ same_name name row.0) rows
    → without_name name rows ≡ filter (is_of_other id) rows
name_goes name id [] distinct alike = refl
name_goes name id (row ∷ rows) distinct alike =
    let later : All (λ (r : Row). same_id r.1 id ≡ same_name name r.0) rows =
    All-tail (λ (r : Row). same_id r.1 id ≡ same_name name r.0) row rows alike in
    first_goes id row _ _ _ (alike 0 row (omega arith)) (λ is. others_stay id rows (λ k d less. later k d less
    ∙ All-from_recursion (λ (r : Row). same_name name r.0 ≡ false) rows (none_past_head same_name_equiv name row rows
    distinct is) k d less)) (name_goes name id rows (IsDistinct-tail same_name row.0 (keys_of rows) distinct) later)

-- and where names are distinct, a row with its name has its Id
row_alike : (ts : Tables) (objects : ObjectSlots) (rows : Rows) (o : Object) (name : ObjectName) (row : Row)
    → AreDistinct rows → ArePlaced objects → get_or objects o.id.slot None ≡ Some o → o.name ≡ Some name
    → Contains rows (name, o.id) → Contains rows row → IsRow ts objects row → same_id row.1 o.id ≡ same_name name row.0
row_alike ts objects rows o name row distinct placed at named there also is =
    both_ways (same_id row.1 o.id) (same_name name row.0)
    (λ one. (same_name-Decides name row.0).1 (search arith))
    (λ one. (let own : find_name name rows ≡ Some o.id =
    lookup-from_Contains same_name_equiv name o.id rows distinct there in
    let other : find_name row.0 rows ≡ Some row.1 = lookup-from_Contains same_name_equiv row.0 row.1 rows distinct
    also in
    let same = (same_name-Decides name row.0).0 one in search arith))

-- the rows once the last entry of an object left
rows_without : (ts : Tables) (objects : ObjectSlots) (births p value : ℕ) (e : Entry)
    → entry_at (table_of ts p) value ≡ Some e → handles_among e.id (without_entry_of ts p value) ≡ 0
    → rows_of (without_entry_of ts p value) objects births ≡ filter (is_of_other e.id) (rows_of ts objects births)
rows_without ts objects births p value e found none = rows_gone ts (without_entry_of ts p value) e.id objects births
    (λ o. search (arith, none_left, handles_among-without_entry))

here : (objects : ObjectSlots) (e : Entry) (o : Object) → get_or objects e.id.slot None ≡ Some o → o.id ≡ e.id
    → get_or objects o.id.slot None ≡ Some o
here objects e o at own = ap (λ (i : Id). get_or objects i.slot None) own ∙ at

-- what is found by its name: an object of that name, which has handles
pub record IsFound (ts : Tables) (objects : ObjectSlots) (name : ObjectName) (id : Id) : Type 0 where
  pub object : Object
  pub is_there : get_or objects id.slot None ≡ Some object
  pub its_id : object.id ≡ id
  pub its_name : object.name ≡ Some name
  pub has : 0 < handles_among id ts

found_row : (ts : Tables) (objects : ObjectSlots) (name : ObjectName) (id : Id) → ArePlaced objects
    → IsRow ts objects (name, id) → IsFound ts objects name id
found_row ts objects name id placed is = search (arith, ltb-true)

module _ (rows : Rows) (ts : Tables) (objects : ObjectSlots) (births : ℕ)
    (listing : IsListing rows ts objects births) where
  -- the same objects have handles
  listing_alike : (ts' : Tables) → ((k : ℕ) (o : Object) → get_or objects k None ≡ Some o
      → has_handles o.id ts' ≡ has_handles o.id ts) → IsListing rows ts' objects births
  listing_alike ts' same = search (arith, rows_same)

  -- a process comes, without entries or with those that it inherits
  pub listing_process : (p : ℕ) (from : Option ℕ) → table_of ts p ≡ []
      → IsListing rows (with_table ts p from) objects births
  listing_process p from none = listing_alike _ (λ k o at. search (arith, handles_among-with_table, new_has))

  -- an entry has other flags
  pub listing_flags : (p value : ℕ) (e : Entry) (flags : HandleFlags) → entry_at (table_of ts p) value ≡ Some e
      → IsListing rows (with_flags_of ts p value flags) objects births
  listing_flags p value e flags found = listing_alike _ (λ k o at. search (arith, handles_among-with_flags))

  -- an entry comes for an object that has one
  pub listing_placed : (p : ℕ) (e : Entry) → 0 < handles_among e.id ts
      → IsListing rows (with_entry_of ts p e) objects births
  listing_placed p e some = elim (cases_lt p (length ts)) [
    | inl table ↦ listing_alike _ (λ k o at. search (arith, handles_among-with_entry))
    | inr past ↦ search (arith, set_past)
  ]

  -- an entry leaves, and others of its object stay
  pub listing_removed : (p value : ℕ) (e : Entry) → entry_at (table_of ts p) value ≡ Some e
      → 0 < handles_among e.id (without_entry_of ts p value)
      → IsListing rows (without_entry_of ts p value) objects births
  listing_removed p value e found some = listing_alike _ (λ k o at. still_has ts (without_entry_of ts p value) e o.id _ refl
      (handles_among-without_entry o.id ts p value e found) some)

  -- an object without handles leaves its slot
  pub listing_left : (slot : ℕ) (o : Object) → get_or objects slot None ≡ Some o → handles_among o.id ts ≡ 0
      → IsListing rows ts (set objects slot None) births
  listing_left slot o at none =
      search (arith, rows_left ts objects slot o births (some_within objects slot o at) at (rw none))

  module _ (placed : ArePlaced objects) where
    -- what is found by its name is an object of that name, which has handles
    pub listing_found : (name : ObjectName) (id : Id) → find_name name rows ≡ Some id → IsFound ts objects name id
    listing_found name id is =
        let there : Contains rows (name, id) = Contains-from_lookup
        (λ a b same. (same_name-Decides a b).0 same) name id rows is in
        search (arith, found_row, rows_are)

    -- the last entry of an object leaves: a name leaves with it
    pub listing_removed_last : (p value : ℕ) (e : Entry) (o : Object) → entry_at (table_of ts p) value ≡ Some e
        → handles_among e.id (without_entry_of ts p value) ≡ 0 → get_or objects e.id.slot None ≡ Some o → o.id ≡ e.id
        → o.name ≡ None → IsListing rows (without_entry_of ts p value) objects births
    listing_removed_last p value e o found none at own nameless =
        let stay = others_stay e.id (rows_of ts objects births) (λ k d less. let is = rows_are ts objects births k d less in
        search arith) in
        search (arith, rows_without, stay)

    pub listing_name_removed : (p value : ℕ) (e : Entry) (o : Object) (name : ObjectName) → AreBorn objects births
        → entry_at (table_of ts p) value ≡ Some e → handles_among e.id (without_entry_of ts p value) ≡ 0
        → get_or objects e.id.slot None ≡ Some o → o.id ≡ e.id → o.name ≡ Some name
        → IsListing (without_name name rows) (without_entry_of ts p value) objects births
    listing_name_removed p value e o name born found none at own named = record {
      same = left ∙ sym (search (arith, rows_without));
      distinct = subst AreDistinct (sym left) (IsDistinct-keys_filter same_name (is_of_other e.id)
          (rows_of ts objects births) distinct);
    }
      where
        distinct : AreDistinct (rows_of ts objects births)
        distinct = subst AreDistinct listing.same listing.distinct

        has : has_handles o.id ts ≡ true
        has = search (arith, found_counts)

        there : Contains (rows_of ts objects births) (name, o.id)
        there = row_there ts objects o.id.slot o name births (here objects e o at own) (search arith) named has

        alike : All (λ (row : Row). same_id row.1 o.id ≡ same_name name row.0) (rows_of ts objects births)
        alike k d less = row_alike ts _ _ o _ _ distinct placed (here objects e o at own) named there
            (Contains-get_or (rows_of ts objects births) k d less) (rows_are ts objects births k d less)

        left : without_name name rows ≡ filter (is_of_other e.id) (rows_of ts objects births)
        left = ap (without_name name) listing.same ∙ name_goes name o.id (rows_of ts objects births) distinct alike
            ∙ ap (λ (i : Id). filter (is_of_other i) (rows_of ts objects births)) own

    -- a new object comes to an empty slot, with its first entry: its name comes last
    pub listing_added : (p : ℕ) (e : Entry) (o : Object) → AreBorn objects births → p < length ts → o.id ≡ e.id
        → o.birth ≡ births → o.name ≡ None → get_or objects e.id.slot None ≡ None → e.id.slot < length objects
        → IsListing rows (with_entry_of ts p e) (set objects e.id.slot (Some o)) (births + 1)
    listing_added p e o born table own number nameless empty within = search (arith, handles_among-with_entry, rows_added, rows_same, append-nil)

    pub listing_name_added : (p : ℕ) (e : Entry) (o : Object) (name : ObjectName) → AreBorn objects births
        → p < length ts → o.id ≡ e.id → o.birth ≡ births → o.name ≡ Some name
        → get_or objects e.id.slot None ≡ None → e.id.slot < length objects → find_name name rows ≡ None
        → IsListing (rows ++ (name, o.id) ∷ []) (with_entry_of ts p e) (set objects e.id.slot (Some o)) (births + 1)
    listing_name_added p e o name born table own number named empty within absent =
        search (arith, handles_among-with_entry, rows_added, rows_same, distinct_with)

-- before any call there is no name
pub listing_opening : (slots : ℕ) → IsListing [] ([] ∷ []) (replicate slots None) 0
unfolding IsDistinct
listing_opening slots = record { same = refl; distinct = tt }

-- objects that agree with their keeper are placed
pub placed_agreed : (s : ObjectsState) → IsAgreed s → ArePlaced s.objects
placed_agreed s agreed k o there = grind (arith, agreed.each k, agreed.length_is, some_within s.objects k o there)
