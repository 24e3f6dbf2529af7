-- Settling over the numbers of several slots: always the least number above the last one takes effect next.
use Rattle.ob_waits.proofs.Cited.{◌≡◌, ℕ, zero, suc, ◌<◌, ◌≤◌, List, [], ◌∷◌, length, Some, None, sym, arith, eqb, get_or, Option, true, false, inl, inr, leb, get_or_default, false_from_ne_true, Id, IsAtMost, list_any_at, IsNext, IsNextOf, numbers_of, Within, IsRising, IsReadyBy, IsSettled, nowhere, Scene, has_slot, ids_of, is_ready, names_slot, passed, settled}
use Rattle.std.specs.List.Sorted.{IsPartitionedBy, IsPartitionPoint}
use Rattle.ob_waits.proofs.Keeping.{passed_fades}
use Rattle.ob_waits.proofs.Settling.{ready_pending}
use Rattle.ob_waits.proofs.PassLaws.{by_passed, steps, unready}
use Rattle.ob_waits.proofs.AddedLaws.{any_at}
use Rattle.ob_waits.proofs.NumberLaws.{within_at}

-- the first of some numbers that is above the last
rising_at : (ns : List ℕ) → IsRising ns → (i j d : ℕ) → i ≤ j → j < length ns → get_or ns i d ≤ get_or ns j d
rising_at [] r i j d le lt = absurd (omega arith)
rising_at (x ∷ ns) r i zero d le lt = search arith
rising_at (x ∷ ns) r zero (suc j) d le lt = grind (arith, r.0 (get_or ns j 0), within_at ns j, get_or_default ns j d 0)
rising_at (x ∷ ns) r (suc i) (suc j) d le lt = rising_at ns r.1 i j d (omega arith) (omega arith)

within_index : (k : ℕ) (ns : List ℕ) → Within k ns → (i : ℕ) × (i < length ns) × (get_or ns i 0 ≡ k)
within_index k [] w = absurd w
within_index k (x ∷ ns) (inl same) = (zero, omega arith, sym same)
within_index k (x ∷ ns) (inr later) = let at = within_index k ns later in (suc at.0, (let lt = at.1 in omega arith), at.2)

pub parted : (ns : List ℕ) (last : ℕ) → IsRising ns → IsPartitionedBy (λ n. leb n last) ns
parted ns last r = search (arith, rising_at)

module _ (ns : List ℕ) (last at : ℕ) (rising : IsRising ns)
    (point : IsPartitionPoint (λ n. leb n last ≡ true) (λ n. leb n last ≡ false) ns at) where
  from_there : (k : ℕ) → Within k ns → last < k → (i : ℕ) × (at ≤ i) × (i < length ns) × (get_or ns i 0 ≡ k)
  from_there k w above = search (arith, within_index, point.0)

  pub next_there : at < length ns → IsNext last ns (Some (get_or ns at 0))
  next_there lt = search (arith, rising_at, from_there)

  pub next_none : length ns ≤ at → IsNext last ns None
  next_none past = search (arith, from_there)

-- what is ready is so by one of the slots, and stands above the last number; the slots have the numbers of all waits
-- that name them
pub record Remains (last : ℕ) (lists : List (List ℕ)) (ids : List Id) (s : Scene) : Type 0 where
  pub above : (k : ℕ) → is_ready s.objects.bodies (get_or s.waits k None) ≡ true → last < k
  pub by : IsReadyBy (has_slot ids) s.objects.bodies s.waits
  pub listed : (slot k : ℕ) → names_slot slot (get_or s.waits k None) ≡ true → Within k (numbers_of lists slot)

pub record Goes (m : ℕ) (lists : List (List ℕ)) (ids : List Id) (s after : Scene) : Type 0 where
  pub same : settled after ≡ settled s
  pub was : (k : ℕ) → is_ready after.objects.bodies (get_or after.waits k None) ≡ true
      → is_ready s.objects.bodies (get_or s.waits k None) ≡ true
  pub remains : Remains m lists ids after

module _ (last : ℕ) (lists : List (List ℕ)) (ids : List Id) (s : Scene) (r : Remains last lists ids s) where
  -- nothing that is ready is below the next number
  not_below : (next : Option ℕ) → IsNextOf last lists s ids next → (k : ℕ) → (IsAtMost next k → ⊥)
      → is_ready s.objects.bodies (get_or s.waits k None) ≡ false
  not_below next is k below = false_from_ne_true _ (λ ready.
      let w = get_or s.waits k None in
      let un = unready (has_slot ids) s.objects.bodies s.waits r.by k (λ t i own lt changed.
      let slot = (get_or (ids_of w) i nowhere).slot in
      let some = any_at (λ (id : Id). eqb id.slot slot) nowhere ids changed in
      let same : (get_or ids some.0 nowhere).slot ≡ slot = grind arith in
      let named : names_slot slot w ≡ true = list_any_at (λ (id : Id). eqb id.slot slot) (ids_of w) i nowhere lt
      (grind arith) in
      grind (arith, is.least some.0 k, r.listed slot k, r.above k, ready_pending s.objects.bodies w)) in
      cc (un, ready))

  -- the next number takes effect, where it is ready
  pub goes : (m : ℕ) → IsNextOf last lists s ids (Some m) → Goes m lists ids s (passed (m ∷ []) s)
  goes m is =
      search (arith, by_passed, passed_fades (m ∷ []) s, steps m s (λ k. grind (arith, not_below (Some m) is k)))

  -- no number is left
  pub all_gone : IsNextOf last lists s ids None → IsSettled s.objects.bodies s.waits
  all_gone is = search (arith, not_below)
