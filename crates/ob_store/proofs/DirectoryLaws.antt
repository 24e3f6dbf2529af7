-- How the rows of the directory change with the handles and with the objects, and whose rows they are.
use Rattle.ob_store.proofs.Cited.{◌≡◌, ℕ, ◌≢◌, zero, suc, ◌<◌, List, [], ◌∷◌, ◌++◌, length, Option, Some, None, refl, arith, get_or, set, Bool, true, false, cond, not, ◌&&◌, ltb, inl, inr, cases_eq, Id, same_id, ObjectName, Rows, Row, Entry, handles_among, Object, Contains, get_or-set_other, get_or-set_same, length-set, set-get_or, rows_of}
use Rattle.std.specs.List.{All, cons_option, filter, filter_map}
use Rattle.std.proofs.lemmas.List.{set-set}
use Rattle.std.proofs.lemmas.List.Elements.{All-append, All-nil, All-tail, Contains-append_left, Contains-append_right, filter-append}
use Rattle.ob_store.specs.Directory.{named_row, row_of}

abbrev pub Tables : Type 0
Tables = List (List (Option Entry))

abbrev pub ObjectSlots : Type 0
ObjectSlots = List (Option Object)

-- whether an object has handles
abbrev pub has_handles : Id → Tables → Bool
has_handles id ts = ltb 0 (handles_among id ts)

-- what a function picks of the slots of a list
module _ {A B : Type 0} (f : Option A → Option B) where
  picks_same : (g : Option A → Option B) (xs : List (Option A))
      → ((k : ℕ) → f (get_or xs k None) ≡ g (get_or xs k None)) → filter_map f xs ≡ filter_map g xs
  picks_same g [] same = refl
  picks_same g (x ∷ xs) same = cc (picks_same g xs (λ k. same (suc k)), same 0)

  -- a slot changes, and what is picked of it stays
  picks_stay : (xs : List (Option A)) (k : ℕ) (x : Option A) → k < length xs → f x ≡ f (get_or xs k None)
      → filter_map f (set xs k x) ≡ filter_map f xs
  picks_stay [] k x less same = refl
  picks_stay (y ∷ xs) k x less same = grind (arith, picks_stay xs)

  pub picks_none : (xs : List (Option A)) → ((k : ℕ) → f (get_or xs k None) ≡ None) → filter_map f xs ≡ []
  picks_none [] none = refl
  picks_none (x ∷ xs) none = rw (none 0) (picks_none xs (λ k. none (suc k)))

  -- where nothing was picked, a slot that changes gives all
  picks_one : (xs : List (Option A)) (k : ℕ) (x : Option A) → k < length xs → ((j : ℕ) → f (get_or xs j None) ≡ None)
      → filter_map f (set xs k x) ≡ cons_option (f x) []
  picks_one [] k x less none = absurd (omega arith)
  picks_one (y ∷ xs) zero x less none = rw (picks_none xs (λ j. none (suc j))) refl
  picks_one (y ∷ xs) (suc k) x less none = rw (none 0) (picks_one xs k x (omega arith) (λ j. none (suc j)))

  -- as does the one slot of which anything is picked
  pub picks_only : (xs : List (Option A)) (k : ℕ) → k < length xs → f None ≡ None
      → ((j : ℕ) → j ≢ k → f (get_or xs j None) ≡ None) → filter_map f xs ≡ cons_option (f (get_or xs k None)) []
  picks_only xs k less none others =
      let all = picks_one (set xs k None) k (get_or xs k None) (search (arith, length-set)) (search (arith, get_or-set_other, get_or-set_same)) in
      search (arith, set-get_or, set-set, all)

  picked_all : (P : B → Type 0) (xs : List (Option A)) → ((k : ℕ) (y : B) → f (get_or xs k None) ≡ Some y → P y)
      → All P (filter_map f xs)
  picked_all P [] each = All-nil P
  picked_all P (x ∷ xs) each = search (arith, picked_all P xs (λ k. each (suc k)), each 0)

  picked_later : (o : Option B) (ys : List B) (y : B) → Contains ys y → Contains (cons_option o ys) y
  picked_later None ys y there = there
  picked_later (Some z) ys y there = (suc there.0, omega arith, there.2)

  picked_there : (xs : List (Option A)) (k : ℕ) (x : A) (y : B) → get_or xs k None ≡ Some x → f (Some x) ≡ Some y
      → Contains (filter_map f xs) y
  picked_there [] k x y at is = absurd cc
  picked_there (z ∷ xs) k x y at is = grind (arith, picked_later, picked_there xs)

-- rows that are the same birth by birth
rows_alike : (ts ts' : Tables) (xs xs' : ObjectSlots) (n : ℕ)
    → ((b : ℕ) → b < n → filter_map (row_of ts' b) xs' ≡ filter_map (row_of ts b) xs)
    → rows_of ts' xs' n ≡ rows_of ts xs n
rows_alike ts ts' xs xs' zero same = refl
rows_alike ts ts' xs xs' (suc n) same = cc (same n (omega arith), rows_alike ts ts' xs xs' n (λ b less. same b (omega arith)))

pub rows_same : (ts ts' : Tables) (xs : ObjectSlots) (n : ℕ)
    → ((k : ℕ) (o : Object) → get_or xs k None ≡ Some o → has_handles o.id ts' ≡ has_handles o.id ts)
    → rows_of ts' xs n ≡ rows_of ts xs n
rows_same ts ts' xs n same = search (arith, picks_same)

-- where one object has no handles any more, its rows go
abbrev pub is_of_other : Id → Row → Bool
is_of_other id row = not (same_id row.1 id)

pub rows_gone : (ts ts' : Tables) (id : Id) (xs : ObjectSlots) (n : ℕ)
    → ((o : Object) → has_handles o.id ts' ≡ (not (same_id o.id id) && has_handles o.id ts))
    → rows_of ts' xs n ≡ filter (is_of_other id) (rows_of ts xs n)
rows_gone ts ts' id xs zero gone = refl
rows_gone ts ts' id xs (suc n) gone = search (arith, filter-append, rows_gone ts ts' id xs n gone, of_birth xs)
  where
    of_birth : (ys : ObjectSlots) → filter_map (row_of ts' n) ys ≡ filter (is_of_other id) (filter_map (row_of ts n) ys)
    of_birth [] = refl
    of_birth (y ∷ ys) = search (arith, of_birth ys)

-- rows of other objects all stay
pub others_stay : (id : Id) (rows : Rows) → All (λ (row : Row). same_id row.1 id ≡ false) rows
    → filter (is_of_other id) rows ≡ rows
others_stay id [] apart = refl
others_stay id (row ∷ rows) apart = grind (arith, apart 0 row, others_stay id rows (All-tail (λ (r : Row). same_id r.1 id ≡ false) row rows apart))

-- one row goes, where all behind it stay
pub first_goes : (id : Id) (row : Row) (rows rest : Rows) (b : Bool) → same_id row.1 id ≡ b
    → (b ≡ true → filter (is_of_other id) rows ≡ rows) → rest ≡ filter (is_of_other id) rows
    → cond b rows (row ∷ rest) ≡ filter (is_of_other id) (row ∷ rows)
first_goes = search arith

-- an object without handles leaves its slot, and the rows stay
pub rows_left : (ts : Tables) (xs : ObjectSlots) (k : ℕ) (o : Object) (n : ℕ) → k < length xs
    → get_or xs k None ≡ Some o → has_handles o.id ts ≡ false → rows_of ts (set xs k None) n ≡ rows_of ts xs n
rows_left ts xs k o n within at none = search (arith, picks_stay)

pub rows_added : (ts : Tables) (xs : ObjectSlots) (k : ℕ) (o : Object) (n : ℕ) → k < length xs → get_or xs k None ≡ None
    → o.birth ≡ n → has_handles o.id ts ≡ true → ((j : ℕ) (p : Object) → get_or xs j None ≡ Some p → p.birth < n)
    → rows_of ts (set xs k (Some o)) (suc n) ≡ rows_of ts xs n ++ cons_option (named_row o.id o.name) []
rows_added ts xs k o n within empty born has below = search (arith, picks_stay, picks_one, rows_alike)

-- each row is that of an object, which has handles
pub record IsRow (ts : Tables) (xs : ObjectSlots) (row : Row) : Type 0 where
  pub place : ℕ
  pub object : Object
  pub is_there : get_or xs place None ≡ Some object
  pub its_id : object.id ≡ row.1
  pub its_name : object.name ≡ Some row.0
  pub has : has_handles row.1 ts ≡ true

pub rows_are : (ts : Tables) (xs : ObjectSlots) (n : ℕ) → All (IsRow ts xs) (rows_of ts xs n)
rows_are ts xs zero = search (arith, All-nil)
rows_are ts xs (suc n) = search (arith, All-append (IsRow ts xs), picked_all (row_of ts n) (IsRow ts xs), rows_are ts xs n)

-- and each object with a name and with handles has a row
pub row_there : (ts : Tables) (xs : ObjectSlots) (k : ℕ) (o : Object) (name : ObjectName) (n : ℕ)
    → get_or xs k None ≡ Some o → o.birth < n → o.name ≡ Some name → has_handles o.id ts ≡ true
    → Contains (rows_of ts xs n) (name, o.id)
row_there ts xs k o name zero at less named has = absurd (omega arith)
row_there ts xs k o name (suc n) at less named has = elim (cases_eq o.birth n) [
  | inl same ↦ Contains-append_right (rows_of ts xs n) _ _ (picked_there (row_of ts n) xs k o _ at (search arith))
  | inr other ↦ Contains-append_left _ (filter_map (row_of ts n) xs) _ (row_there ts xs k o name n at (omega arith) named has)
]
