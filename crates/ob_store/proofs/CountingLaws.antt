-- What counting leaves: all is as it was but for the handles, which are more by the entries that name a slot. What a store
-- that is kept has counted is counted again.
use Rattle.ob_store.proofs.Cited.{◌≡◌, ℕ, ◌+◌, ◌<◌, true, cond, List, [], ◌∷◌, length, get_or, Option, Some, Ok, sym, ap, ◌∙◌, arith, length-set, get_or-set_same, get_or-set_other, sum_by-cons, Id, bind_ok, Entry, IsThere, id_in, Object, Places, with_handle, handles_in, handles_among, slot_handles_in, slot_handles, one_id, counting_all, counting_in, is_its, names, names_slot, counting, may_count, ◌≤◌, None, refl, length-replicate, IsBounded, Wait, IsCounted, IsNamed, slot_handles-few, same_Some, and_from, lt-ltb, same_id-same, one_in-same, uncounted}
use Rattle.ob_store.proofs.NamedLaws.{there_within}
use Rattle.ob_store.proofs.ByPlace.{replicate_at}
use Rattle.ob_store.proofs.BySlot.{is_by_slot}
use Rattle.ob_store.proofs.CountedLaws as stored

abbrev pub handles_at : Places → ℕ → ℕ
handles_at p k = get_or p.seen.handles k 0

-- so many handles more by slot, and what is named is there
pub record Counts (p q : Places) (more : ℕ → ℕ) (Named : Id → Type 0) : Type 0 where
  pub same : q ≡ record p { seen = record p.seen { handles = q.seen.handles } }
  pub length_is : length q.seen.handles ≡ length p.seen.handles
  pub handles : (k : ℕ) → handles_at q k ≡ handles_at p k + more k
  pub named : (id : Id) → Named id → IsThere p.objects id

-- there is a count for each object
abbrev pub IsWide : Places → Type 0
IsWide p = length p.objects ≡ length p.seen.handles

pub still_wide : (p q : Places) (more : ℕ → ℕ) (Named : Id → Type 0) → Counts p q more Named → IsWide p → IsWide q
still_wide p q more Named c wide = ap (λ (z : Places). length z.objects) c.same ∙ wide ∙ sym c.length_is

pub its_there : (x : Option Object) (id : Id) → is_its id x ≡ true → id_in x ≡ Some id
its_there = search (arith, one_id)

-- one handle more of the slot of an entry
pub one_counts : (p : Places) (e : Entry) → IsWide p → may_count p e.id ≡ true →
    Counts p (with_handle p e.id.slot) (λ k. cond (names_slot k (Some e)) 1 0) (λ id. names id (Some e) ≡ true)
one_counts p e wide may = search (arith, its_there, get_or-set_other, get_or-set_same, length-set, there_within)

place_counts : (p q : Places) (place : Option Entry) → IsWide p → counting p place ≡ Ok q →
    Counts p q (λ k. cond (names_slot k place) 1 0) (λ id. names id place ≡ true)
place_counts = search (arith, one_counts)

-- one count behind another
then_counts : (p q r : Places) (more more' all : ℕ → ℕ) (Named Named' All : Id → Type 0) → Counts p q more Named →
    Counts q r more' Named' →
    ((k : ℕ) → all k ≡ more k + more' k) →
    ((id : Id) → All id → (Named id → IsThere p.objects id) → (Named' id → IsThere p.objects id) →
    IsThere p.objects id) →
    Counts p r all All
then_counts p q r more more' all Named Named' All c d sum either = grind arith

pub table_counts : (p q : Places) (places : List (Option Entry)) → IsWide p → counting_in p places ≡ Ok q →
    Counts p q (λ k. slot_handles_in k places) (λ id. 0 < handles_in id places)
table_counts p q [] wide e = search arith
table_counts p q (place ∷ places) wide e =
    let b = bind_ok (counting p place) (λ (z : Places). counting_in z places) q e in
    let c = place_counts p b.0 place wide b.1 in
    then_counts _ _ _ _ _ _ _ _ _ c (table_counts b.0 q places (still_wide p b.0 _ _ c wide) b.2)
    (search (arith, sum_by-cons)) (search arith)

pub tables_count : (p q : Places) (tables : List (List (Option Entry))) → IsWide p → counting_all p tables ≡ Ok q →
    Counts p q (λ k. slot_handles k tables) (λ id. 0 < handles_among id tables)
tables_count p q [] wide e = search arith
tables_count p q (table ∷ tables) wide e =
    let b = bind_ok (counting_in p table) (λ (z : Places). counting_all z tables) q e in
    let c = table_counts p b.0 table wide b.1 in
    then_counts _ _ _ _ _ _ _ _ _ c (tables_count b.0 q tables (still_wide p b.0 _ _ c wide) b.2)
    (search (arith, sum_by-cons)) (search arith)

abbrev Again : Places → List (List (Option Entry)) → Type 0
Again p tables = (q : Places) × (counting_all p tables ≡ Ok q)

pub its_id : (x : Option Object) (id : Id) → id_in x ≡ Some id → is_its id x ≡ true
its_id = search (arith, same_Some, same_id-same)

may-again : (p : Places) (id : Id) → IsThere p.objects id → handles_at p id.slot < 4294967295 → may_count p id ≡ true
may-again p id there room = search (arith, its_id, and_from, lt-ltb, id.slot, p.objects)

in-again : (p : Places) (places : List (Option Entry)) → IsWide p →
    ((k : ℕ) → handles_at p k + slot_handles_in k places ≤ 4294967295) →
    ((id : Id) → 0 < handles_in id places → IsThere p.objects id) → (q : Places) × (counting_in p places ≡ Ok q)
in-again p [] wide few named = (p, refl)
in-again p (None ∷ places) wide few named =
    search (arith, in-again p places wide (search (arith, sum_by-cons)) (search (arith, sum_by-cons)))
in-again p (Some e ∷ places) wide few named =
    let there = named e.id (rw (sum_by-cons, same_id-same) (omega arith)) in
    let room : handles_at p e.id.slot < 4294967295 = search (arith, sum_by-cons, one_in-same, few e.id.slot) in
    let may = may-again p e.id there room in
    let c = one_counts p e wide may in
    let rest = in-again (with_handle p e.id.slot) places (still_wide p (with_handle p e.id.slot) _ _ c wide)
    (λ k. search (arith, sum_by-cons, few k, c.handles k)) (λ id h. named id (search (arith, sum_by-cons))) in
    (rest.0, rw may rest.1)

all-again : (p : Places) (tables : List (List (Option Entry))) → IsWide p →
    ((k : ℕ) → handles_at p k + slot_handles k tables ≤ 4294967295) →
    ((id : Id) → 0 < handles_among id tables → IsThere p.objects id) → Again p tables
all-again p [] wide few named = (p, refl)
all-again p (table ∷ tables) wide few named =
    let a = in-again p table wide (λ k. search (arith, sum_by-cons, few k)) (λ id h. named id (search (arith, sum_by-cons))) in
    let c = table_counts p a.0 table wide a.1 in
    let rest = all-again a.0 tables (still_wide p a.0 _ _ c wide)
    (λ k. search (arith, sum_by-cons, few k, c.handles k))
    (λ id h. rw c.same (named id (search (arith, sum_by-cons)))) in
    (rest.0, rw a.1 rest.1)

pub counting_again : (p : Places) (processes limit : ℕ) (tables : List (List (Option Entry)))
    (waits : List (Option Wait)) → IsCounted p.seen (length p.objects) tables waits → IsNamed p.objects tables waits
    → IsBounded processes limit tables → counting_all (uncounted p) tables ≡ Ok p
counting_again p processes limit tables waits counted named bounded =
    let n = length p.objects in
    let wide : IsWide (uncounted p) = sym (length-replicate {A = ℕ} n 0) in
    let a = all-again (uncounted p) tables wide
    (λ k. search (arith, replicate_at, slot_handles-few k processes limit tables bounded)) named.entries in
    let c = tables_count (uncounted p) a.0 tables wide a.1 in
    let same : a.0.seen.handles ≡ p.seen.handles =
    is_by_slot _ n _ (search (arith, c.length_is, length-replicate)) (λ k lt. search (arith, c.handles k, replicate_at)) ∙ sym counted.handles in
    a.1 ∙ ap Ok (rw same at c.same)
