-- How many mutexes each thread owns, while bodies change.
use Rattle.ob_store.proofs.Cited.{nat_tests, at_place, ◌≡◌, ℕ, zero, suc, ◌+◌, ◌<◌, ◌≤◌, List, length, Option, Some, None, refl, arith, get_or, set, map, replicate, Bool, true, false, cond, count_by, IsSome, length-set, length-map, length-replicate, get_or_past, get_or-set_same, get_or-set_other, get_or-map, Body, is_owner, Slots, is_vacant_at, slot_owner, ObjectHeader, slot_left_by, Places, Tag, objects_in, places_of, header_body, vacancy, get_or-le-sum_by}
use Rattle.std.proofs.lemmas.List.Sums.{sum_by-set, count_by-le-length}
use Rattle.ob_store.specs.Owners.{header_owner, is_header_of, owned_left, owned_came, owned_moved, IsOwned}
use Rattle.ob_store.proofs.LabelLaws.{object_read, objects_length}
use Rattle.ob_store.proofs.BySlot.{count_at, count_few, is_by_slot, zero_counts}

abbrev pub one_of : ℕ → Option ℕ → ℕ
one_of t o = cond (is_owner t o) 1 0

pub at_came : (xs : List ℕ) (o : Option ℕ) (t : ℕ) → t < length xs
    → get_or (owned_came xs o) t 0 ≡ get_or xs t 0 + one_of t o
at_came = search (arith, get_or-set_other, get_or-set_same)

-- no more after one left
pub few_left : (xs : List ℕ) (o : Option ℕ) → ((t : ℕ) → get_or xs t 0 ≤ 65536) → (t : ℕ)
    → get_or (owned_left xs o) t 0 ≤ 65536
few_left xs o few t = search (arith, get_or-set_other, get_or-set_same, length-set, get_or_past)

pub owned_few : (xs : List (Option ObjectHeader)) (counts : List ℕ) → IsOwned xs counts → (t : ℕ)
    → get_or counts t 0 ≤ 65536
owned_few xs counts owned t = search (arith, count_by-le-length, count_few)

pub some_there : (xs : List (Option ObjectHeader)) (k : ℕ) (x : ObjectHeader) → get_or xs k None ≡ Some x
    → k < length xs
some_there xs k x is = search (arith, get_or_past)

module _ (xs : List (Option ObjectHeader)) (counts : List ℕ) (k : ℕ) (owned : IsOwned xs counts) where
  pub moved_owned : (y : Option ObjectHeader) (before after : Option ℕ) → k < length xs → before ≡ header_owner (get_or xs k None)
      → after ≡ header_owner y → IsOwned (set xs k y) (owned_moved counts before after)
  moved_owned y before after lt was now =
      search (arith, get_or-set_other, get_or-set_same, at_came, length-set, count_at, get_or-le-sum_by, is_by_slot, sum_by-set)

  -- a header changed, and its owner not
  same_owned : (y : Option ObjectHeader) → header_owner y ≡ header_owner (get_or xs k None) → k < length xs
      → IsOwned (set xs k y) counts
  same_owned y same lt = search (arith, length-set, sum_by-set)

  -- an object without a body leaves
  pub owned_removed : get_or (map header_body xs) k None ≡ None → k < length xs → IsOwned (set xs k None) counts
  owned_removed ended lt = grind (arith, at_place, same_owned, get_or-map)

  module _ (x y : ObjectHeader) (there : get_or xs k None ≡ Some x) where
    -- a header changed, with its owner or not
    pub owned_set : (before after : Option ℕ) → before ≡ slot_owner x.body → after ≡ slot_owner y.body
        → IsOwned (set xs k (Some y)) (owned_moved counts before after)
    owned_set before after was now = grind (arith, at_place, moved_owned)

    pub owned_stays : y.body ≡ x.body → IsOwned (set xs k (Some y)) counts
    owned_stays same = grind (arith, at_place, same_owned)

    -- a body goes, or stays
    pub owned_left_at : (b : Bool) (o : Option Body) → o ≡ cond b x.body None → y.body ≡ cond b None x.body
        → IsOwned (set xs k (Some y)) (owned_left counts (slot_owner o))
    owned_left_at true o went none = owned_set (slot_owner o) None (search arith) (search arith)
    owned_left_at false o went same = grind (arith, at_place, owned_stays)

pub owned_none : (slots threads : ℕ) → slots ≤ 65536 → IsOwned (replicate slots None) (replicate threads 0)
owned_none slots threads few =
    search (arith, zero_counts, none, length-replicate)
  where
    none : (t n : ℕ) → count_by (is_header_of t) (replicate n None) ≡ 0
    none t zero = refl
    none t (suc n) = omega (arith, none t n)

-- a thread that owns none owns no body
pub none_owned : (xs : List (Option ObjectHeader)) (counts : List ℕ) (t : ℕ) → IsOwned xs counts → t < length counts
    → get_or counts t 0 ≡ 0 → (k : ℕ) → is_owner t (slot_owner (get_or (map header_body xs) k None)) ≡ false
none_owned xs counts t owned lt none k =
    let all : count_by (is_header_of t) xs ≡ 0 = search (arith, count_at) in
    let one = get_or-le-sum_by (λ y. one_of t (header_owner y)) xs k None in
    let at : get_or (map header_body xs) k None ≡ header_body (get_or xs k None) = search (arith, get_or-map, get_or_past, length-map) in
    grind (arith, nat_tests, at_place, all, one, at)

-- what the thread doesn't own stays
pub left_by_other : (t : ℕ) (x : Option Body) → is_owner t (slot_owner x) ≡ false → slot_left_by t x ≡ x
left_by_other = search arith

-- what a thread left it doesn't own, so it leaves it again as it is
pub left_twice : (t : ℕ) (x : Option Body) → slot_left_by t (slot_left_by t x) ≡ slot_left_by t x
left_twice = search arith

-- a vacant slot has no header
pub vacant_header : (s : Slots ObjectHeader) (tags : List Tag) (p : Places) (k : ℕ) → places_of s tags ≡ p
    → is_vacant_at (vacancy p) k ≡ true → (k < length s.bodies) × (get_or s.bodies k None ≡ None)
vacant_header s tags p k view is = search (arith, object_read, objects_length)

-- a slot with an object is there
pub object_within : (s : Slots ObjectHeader) (labels : List Tag) (k : ℕ)
    → IsSome (get_or (objects_in s.bodies labels) k None) → k < length s.bodies
object_within s labels k there = search (arith, get_or_past, objects_length)
