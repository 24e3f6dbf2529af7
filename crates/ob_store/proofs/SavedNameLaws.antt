-- The names that a load enters are the directory, where no name stands twice.
use Rattle.ob_store.proofs.Cited.{cases_lt, ◌<◌, ◌>>=◌, bind_ok, ok_is, ObjectName, Row, some_within, Wait, ObjectsInvariant, IsCounted, IsListing, IsNamed, Object, ObjectsState, Places, places_in, Births, births_from, ◌≡◌, ℕ, zero, suc, ◌+◌, ◌≤◌, Bool, false, cond, ltb, List, [], ◌∷◌, ◌++◌, length, get_or, Option, Some, None, Ok, refl, sym, ap, ◌∙◌, arith, inl, inr, AllByRecursion, append-nil, AreDistinct, Rows, find_name, rows_of, names_in, eq-eqb, cons_option, filter_map, keys_of, values_of, append_assoc, IsDistinct-head, IsDistinct-tail, same_name, same_name_equiv, row_of, named_from, slot_row, with_row}
use Rattle.std.specs.List.{IsDistinct}
use Rattle.ob_store.proofs.CountedLaws.{handles_at}
use Rattle.ob_store.proofs.DirectoryLaws.{Tables, has_handles, picks_none, picks_only}
use Rattle.ob_store.proofs.ListingLaws.{distinct_with, placed_agreed}
use Rattle.ob_store.proofs.NamedLaws.{handles_are}
use Rattle.ob_store.proofs.SavedOrderLaws.{IsOrder, Rises, is_order, none_below, at_other, at_same, taken}

cons_end : {A : Type 0} (xs ys : List A) (o : Option A) → xs ++ cons_option o [] ++ ys ≡ xs ++ cons_option o ys
cons_end = search (arith, append-nil, append_assoc)

-- in the order of births stand just the rows of the directory, where what is stored of handles is what is counted
module _ (ts : Tables) (p : Places) (births : ℕ) (order : Births) (is : IsOrder p.objects births order)
    (handled : (k : ℕ) (o : Object) → get_or p.objects k None ≡ Some o → ltb 0 (get_or p.seen.handles k 0) ≡
    has_handles o.id ts) where
  one-row : (b k : ℕ) (o : Object) → get_or p.objects k None ≡ Some o → o.birth ≡ b →
      row_of ts b (get_or p.objects k None) ≡ slot_row p k
  one-row b k o at born = search (arith, handled, eq-eqb)

  none-born : (b : ℕ) → taken order b ≡ None → filter_map (row_of ts b) p.objects ≡ []
  none-born b none = picks_none (row_of ts b) p.objects (λ k. search arith)

  one-born : (b k : ℕ) → taken order b ≡ Some k → filter_map (row_of ts b) p.objects ≡ cons_option (slot_row p k) []
  one-born b k at =
      let own = is.own b k at in
      picks_only _ _ k (some_within _ k _ own.1) refl (search arith) ∙
      ap (λ r. cons_option r []) (one-row b k _ own.1 own.2)

  -- where no object has a birth there are no more rows
  gap : (low high : ℕ) → low ≤ high → ((b : ℕ) → low ≤ b → b < high → taken order b ≡ None)
      → rows_of ts p.objects high ≡ rows_of ts p.objects low
  gap low zero le none = (let e : low ≡ 0 = omega arith in rw e)
  gap low (suc high) le none = elim (cases_lt high low) [
    | inl lt ↦ (let e : low ≡ suc high = omega arith in rw e)
    | inr from ↦ rw (none-born high (none high from (omega arith)), append-nil)
        (gap low high from (λ b up lt. none b up (omega arith)))
  ]

  -- the rows from one birth on
  rows-on : (es : Births) (low high : ℕ) → low ≤ high → Rises low high es
      → ((b : ℕ) → low ≤ b → taken es b ≡ taken order b)
      → rows_of ts p.objects high ≡ rows_of ts p.objects low ++ filter_map (slot_row p) (values_of es)
  unfolding Rises
  rows-on [] low high le r same = rw append-nil (gap low high le (λ b from lt. sym (same b from)))
  rows-on (e ∷ es) low high le r same =
      let before = gap low e.0 r.0 (λ b from lt. sym (same b from)
      ∙ none_below e.0 high (e ∷ es) b lt (let here : Rises e.0 high (e ∷ es) = (omega arith, r.1, r.2) in here)) in
      let own = one-born e.0 e.1 (sym (same e.0 r.0) ∙ search (arith, at_same)) in
      let behind = rows-on es (suc e.0) high r.1 r.2 (λ b above. sym (search (arith, at_other)) ∙ same b (omega arith)) in
      behind ∙ rw (own, before) (search (arith, append_assoc, cons_end))

  rows-by-order : rows_of ts p.objects births ≡ filter_map (slot_row p) (values_of order)
  rows-by-order = rows-on order 0 births (omega arith) is.rises (λ b from. refl)

-- a name that is entered comes last, and is a new one
module _ (p : Places) where
  one-entered : (rows more : Rows) (r : Option Row) → with_row rows r ≡ Ok more →
      (rows ++ cons_option r [] ≡ more) × (AreDistinct rows → AreDistinct more)
  one-entered = search (arith, append-nil, distinct_with)

  all-entered : (rows out : Rows) (slots : List ℕ) → named_from p rows slots ≡ Ok out →
      (rows ++ filter_map (slot_row p) slots ≡ out) × (AreDistinct rows → AreDistinct out)
  all-entered rows out [] e =
      let same = ok_is rows out e in (append-nil rows ∙ same, search arith)
  all-entered rows out (slot ∷ slots) e =
      let b = bind_ok _ _ out e in
      let one = one-entered rows b.0 (slot_row p slot) b.1 in
      let others = all-entered b.0 out slots b.2 in search (arith, append_assoc)

  -- a name that stands once among rows isn't among those before it
  there-all : (P : ObjectName → Type 0) (rows more : Rows) (row : Row) →
      AllByRecursion P (keys_of (rows ++ row ∷ more)) → P row.0
  there-all P [] more row all = all.0
  there-all P (r ∷ rows) more row all = there-all P rows more row all.1

  new-name : (rows more : Rows) (row : Row) → AreDistinct (rows ++ row ∷ more) → find_name row.0 rows ≡ None
  new-name [] more row distinct = refl
  new-name (r ∷ rows) more row distinct =
      let apart : same_name row.0 r.0 ≡ false = same_name_equiv.symm row.0 r.0 ∙
      there-all (λ y. same_name r.0 y ≡ false) rows more row
      (IsDistinct-head _ r.0 _ distinct) in
      ap (λ (t : Bool). cond t (Some r.1) (find_name row.0 rows)) apart ∙
      new-name rows more row (IsDistinct-tail _ r.0 _ distinct)

  -- so rows in which no name stands twice are all entered
  enter-one : (rows : Rows) (r : Option Row) (others : Rows) → AreDistinct (rows ++ cons_option r others)
      → (more : Rows) × (with_row rows r ≡ Ok more) × (more ++ others ≡ rows ++ cons_option r others)
  enter-one rows None others distinct = (rows, refl, refl)
  enter-one rows (Some row) others distinct =
      (rows ++ row ∷ [], search (arith, new-name), append_assoc rows (row ∷ []) others)

  enters-all : (rows : Rows) (slots : List ℕ) → AreDistinct (rows ++ filter_map (slot_row p) slots) →
      named_from p rows slots ≡ Ok (rows ++ filter_map (slot_row p) slots)
  enters-all rows [] distinct = ap (λ (z : Rows). Ok z) (sym (append-nil rows))
  enters-all rows (slot ∷ slots) distinct =
      let one = enter-one rows (slot_row p slot) (filter_map (slot_row p) slots) distinct in
      rw (one.1, ← one.2) (enters-all one.0 slots (rw (← one.2) at distinct))

module _ (s : ObjectsState) (ts : Tables) (ws : List (Option Wait)) (order : Births) (rows : Rows) (tied : ObjectsInvariant s)
    (counted : IsCounted s.seen (length s.objects) ts ws) (named : IsNamed s.objects ts ws)
    (ordered : births_from s.births [] 0 s.objects ≡ Ok order) where
  its-handles : (k : ℕ) (o : Object) → get_or s.objects k None ≡ Some o → ltb 0 (get_or s.seen.handles k 0) ≡
      has_handles o.id ts
  its-handles k o at =
      let slot = placed_agreed s tied.agreed k o at in
      search (arith, handles_at s.seen (length s.objects) ts ws counted k (some_within _ k o at), handles_are s.objects ts ws named o.id, slot, at)

  directory : rows_of ts s.objects s.births ≡ filter_map (slot_row (places_in s)) (values_of order)
  directory = rows-by-order ts (places_in s) s.births order (is_order s.births order s.objects ordered) its-handles

  pub names_sound : names_in order (places_in s) ≡ Ok rows → IsListing rows ts s.objects s.births
  unfolding IsDistinct
  names_sound e =
      let all = all-entered (places_in s) [] rows (values_of order) e in
      record { same = sym (directory ∙ all.0); distinct = all.1 tt }

  pub names_complete : IsListing rows ts s.objects s.births → names_in order (places_in s) ≡ Ok rows
  names_complete listing = search (arith, enters-all, directory)
