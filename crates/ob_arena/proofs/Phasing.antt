-- What the phases say of the slots, and what a change of one slot does to them.
use Rattle.ob_arena.proofs.Cited.{◌≡◌, ◌∙◌, sym, ap, refl, cond, ℕ, zero, suc, ◌+◌, ◌-◌, ◌<◌, ◌≤◌, List, [], ◌∷◌, length, map, replicate, get_or, set, Option, Some, None, Bool, true, false, ltb, arith, lt-ltb, zero-add, is_some, is_none, not, ◌&&◌, slice_get, IsSome, count_by, ext_get_or, get_or_default, get_or-replicate, get_or-set_same, get_or_past, map-set, length-map, length-set, length-replicate, Vacant, Occupied, Retired, is_vacant, is_occupied, is_retired, is_in_use, IsFilled, is_vacant_at, least_vacant, vacant_count, with_body, without_body, with_retired, vacant_slots, slots_shown, ArenaInvariant}
use Rattle.std.specs.List.{range_with_len, position_or_len}
use Rattle.std.proofs.Math.ListN.{get_or-map}
use Rattle.std.proofs.Math.Seq.{map-set_same}
use Rattle.std.proofs.lemmas.List.Sums.{sum_by-cons, prefix_len-le-length, position_or_len_is, fails_before_first, passes_at_first}
use Rattle.std.proofs.lemmas.List.FromFn.{get_or-range_with_len, length-range_with_len}
use Rattle.std.proofs.lemmas.List.Folds.{find_at}
use Rattle.std.proofs.lemmas.Option.{slice_get-get_or, slice_get_past}
use Rattle.least.specs.Taken.{least_free, taken_count}
use Rattle.ob_arena.specs.declared.phase.Phase.{Phase}

abbrev one_if : Bool → ℕ
one_if b = cond b 1 0

-- numbers from one on, each of which passes a test or is taken
counted_first : (p : ℕ → Bool) (x : Bool) (taken : List Bool) (a : ℕ) → p a ≡ not x
    → count_by p (range_with_len (a + 1) (length taken)) + taken_count taken ≡ length taken
    → count_by p (range_with_len a (suc (length taken))) + taken_count (x ∷ taken) ≡ suc (length taken)
counted_first p true taken a here rest = let none = ap one_if here in search (arith, sum_by-cons)
counted_first p false taken a here rest = let one = ap one_if here in search (arith, sum_by-cons)

counted_range : (p : ℕ → Bool) (taken : List Bool) (a : ℕ)
    → ((k : ℕ) → k < length taken → p (a + k) ≡ not (get_or taken k false))
    → count_by p (range_with_len a (length taken)) + taken_count taken ≡ length taken
counted_range p [] a same = refl
counted_range p (x ∷ taken) a same =
    let here : a ≡ a + 0 = omega arith in
    counted_first p x taken a (ap p here ∙ same 0 (omega arith)) (counted_range p taken (a + 1)
    (λ k lt. let behind : a + 1 + k ≡ a + suc k = omega arith in ap p behind ∙ same (suc k) (omega arith)))

module _ {B : Type 0} (ss : List (Option B)) (ps : List Phase) (taken : List Bool)
    (tied : ArenaInvariant ss ps taken) where
  pub length_phases : length ps ≡ length ss
  length_phases = search (arith, length-map)

  pub length-taken : length taken ≡ length ss
  length-taken = search (arith, length-map)

  pub occupied_at : (k : ℕ) → is_occupied (get_or ps k Vacant) ≡ is_some (get_or ss k None)
  occupied_at k = rw (← get_or-map is_occupied ps k Vacant, tied.occupied) (get_or-map is_some ss k None)

  by_phase : (p : Phase) (s : Option B) → is_occupied p ≡ is_some s → (is_none s && not (is_retired p)) ≡ is_vacant p
  by_phase = search arith

  -- a slot is vacant where its phase is
  pub vacant_phase : (k : ℕ) → is_vacant_at (slots_shown ss ps) k
      ≡ (ltb k (length ss) && is_vacant (get_or ps k Vacant))
  vacant_phase k = ap (λ (b : Bool). ltb k (length ss) && b)
      (ap (λ (r : Bool). is_none (get_or ss k None) && not r) (get_or-map is_retired ps k Vacant)
      ∙ by_phase (get_or ps k Vacant) (get_or ss k None) (occupied_at k))

  pub vacant_within : (k : ℕ) (p : Phase) → k < length ps → p ≡ get_or ps k p
      → is_vacant p ≡ is_vacant_at (slots_shown ss ps) k
  vacant_within k p lt read = search (arith, length_phases, vacant_phase, get_or_default)

  pub occupied_within : (k : ℕ) (p : Phase) → k < length ps → p ≡ get_or ps k p
      → is_occupied p ≡ is_some (get_or ss k None)
  occupied_within k p lt read = ap is_occupied (read ∙ get_or_default ps k p Vacant lt) ∙ occupied_at k

  -- what is known of a vacant slot
  pub record IsFree (k : ℕ) : Type 0 where
    pub within : k < length ss
    pub none : get_or ss k None ≡ None
    pub phase : get_or ps k Vacant ≡ Vacant
    pub free : slice_get taken k ≡ Some false

  in_use_at : (k : ℕ) → get_or taken k false ≡ is_in_use (get_or ps k Vacant)
  in_use_at k = rw tied.in_use (get_or-map is_in_use ps k Vacant)

  free_at : (k : ℕ) → k < length ss → slice_get taken k ≡ Some (is_in_use (get_or ps k Vacant))
  free_at k lt = slice_get-get_or taken k false (let n = length-taken in omega arith)
      ∙ ap Some (in_use_at k)

  pub free_slot : (k : ℕ) → is_vacant_at (slots_shown ss ps) k ≡ true → IsFree k
  free_slot k h = search (arith, vacant_phase, free_at)

  -- what is known of a slot with a body
  pub record IsHeld (k : ℕ) : Type 0 where
    pub within : k < length ss
    pub filled : IsFilled ss k
    pub phase : get_or ps k Vacant ≡ Occupied

  occupied_is : (p : Phase) → is_occupied p ≡ true → p ≡ Occupied
  occupied_is = search arith

  some_of : (s : Option B) → IsSome s → (x : B) × (s ≡ Some x)
  some_of = search arith

  within_of : (k : ℕ) (x : B) → get_or ss k None ≡ Some x → k < length ss
  within_of k x e = search (arith, get_or_past)

  pub held_slot : (k : ℕ) → IsSome (get_or ss k None) → IsHeld k
  held_slot k h =
      let filled = some_of (get_or ss k None) h in
      search (arith, occupied_at, occupied_is, within_of)

  -- the number of a slot with a body is taken
  pub held_number : (k : ℕ) → IsHeld k → slice_get taken k ≡ Some true
  held_number k held = search (arith, free_at)

  -- a body comes to a vacant slot
  pub tied_put : (k : ℕ) (x : B) → IsFree k → ArenaInvariant (set ss k (Some x)) (set ps k Occupied) (set taken k true)
  tied_put k x free = search (arith, length-set, map-set)

  pub shown_put : (k : ℕ) (x : B) → IsFree k → slots_shown (set ss k (Some x)) (set ps k Occupied)
      ≡ with_body (slots_shown ss ps) k x
  shown_put k x free = search (arith, map-set_same)

  -- a body leaves its slot
  pub tied_take : (k : ℕ) → IsHeld k → ArenaInvariant (set ss k None) (set ps k Vacant) (set taken k false)
  tied_take k held = search (arith, length-set, map-set)

  pub shown_take : (k : ℕ) → IsHeld k → slots_shown (set ss k None) (set ps k Vacant)
      ≡ without_body (slots_shown ss ps) k
  shown_take k held = search (arith, map-set_same)

  pub vacant_take : (k : ℕ) → IsHeld k → (ltb k (length (set ss k None))
      && is_vacant (get_or (set ps k Vacant) k Vacant)) ≡ true
  vacant_take k held = search (arith, length_phases, get_or-set_same, length-set)

  -- a body changes in its slot
  pub tied_changed : (k : ℕ) (x : B) → IsHeld k → ArenaInvariant (set ss k (Some x)) ps taken
  tied_changed k x held = search (arith, length-set, map-set_same)

  -- a vacant slot is retired
  pub tied_retire : (k : ℕ) → IsFree k → ArenaInvariant ss (set ps k Retired) (set taken k true)
  tied_retire k free = search (arith, map-set, map-set_same)

  pub shown_retire : (k : ℕ) → slots_shown ss (set ps k Retired) ≡ with_retired (slots_shown ss ps) k
  shown_retire k = search (arith, map-set)

  -- the least number that isn't taken is the least vacant slot
  free_is_vacant : (p : Phase) → not (is_in_use p) ≡ is_vacant p
  free_is_vacant = search arith

  vacant_taken : (k : ℕ) → k < length ss → is_vacant_at (slots_shown ss ps) k ≡ not (get_or taken k false)
  vacant_taken k lt = rw (vacant_phase k, lt-ltb k (length ss) lt, in_use_at k)
      (sym (free_is_vacant (get_or ps k Vacant)))

  -- the numbers that aren't taken are those of the vacant slots
  vacant_and_taken : count_by (is_vacant_at (slots_shown ss ps)) (range_with_len 0 (length ss)) + taken_count taken
      ≡ length ss
  vacant_and_taken = search (arith, counted_range, length-taken, vacant_taken)

  pub taken_few : taken_count taken ≤ length ss
  taken_few = omega (arith, vacant_and_taken)

  pub vacant_counted : length ss - taken_count taken ≡ vacant_count (slots_shown ss ps)
  vacant_counted = omega (arith, vacant_and_taken)

  first_vacant : position_or_len (is_vacant_at (slots_shown ss ps)) (range_with_len 0 (length ss)) ≡ least_free taken
  first_vacant =
      let n = length-range_with_len 0 (length ss) in
      let bound : least_free taken ≤ length taken = prefix_len-le-length (λ b. not (not b)) taken in
      position_or_len_is (is_vacant_at (slots_shown ss ps)) (range_with_len 0 (length ss)) (least_free taken) 0 (let m =
      length-taken in omega arith)
      (λ k below. let lt : k < length ss = (let m = length-taken in omega arith) in
      ap (is_vacant_at (slots_shown ss ps)) (get_or-range_with_len 0 (length ss) k 0 lt ∙ zero-add k)
      ∙ vacant_taken k lt ∙ fails_before_first not taken k false below)
      (λ below. let lt : least_free taken < length ss = omega arith in
      ap (is_vacant_at (slots_shown ss ps)) (get_or-range_with_len 0 (length ss) (least_free taken) 0 lt
      ∙ zero-add (least_free taken))
      ∙ vacant_taken (least_free taken) lt ∙ passes_at_first not taken false (let m = length-taken in omega arith))

  -- and it is found, unless it is past the slots
  pub least_found : least_free taken < length ss → least_vacant (slots_shown ss ps) ≡ Some (least_free taken)
  least_found lt = find_at (is_vacant_at (slots_shown ss ps)) (range_with_len 0 (length ss))
      ∙ ap (slice_get (range_with_len 0 (length ss))) first_vacant
      ∙ slice_get-get_or (range_with_len 0 (length ss)) (least_free taken) 0 (search (arith, length-range_with_len))
      ∙ ap Some (search (arith, get_or-range_with_len))

  pub none_found : length ss ≤ least_free taken → least_vacant (slots_shown ss ps) ≡ None
  none_found past = search (arith, first_vacant, find_at, length-range_with_len, slice_get_past)

pub map-replicate : {X Y : Type 0} (f : X → Y) (x : X) (n : ℕ) → map f (replicate n x) ≡ replicate n (f x)
map-replicate f x zero = refl
map-replicate f x (suc n) = ap (λ l. f x ∷ l) (map-replicate f x n)

-- a new arena
module _ {B : Type 0} where
  pub tied_new : (n : ℕ) → n ≤ 65536
      → ArenaInvariant {B = B} (replicate n None) (replicate n Vacant) (replicate n false)
  tied_new n few = search (arith, map-replicate, length-replicate)

  pub shown_new : (n : ℕ) → slots_shown {B = B} (replicate n None) (replicate n Vacant) ≡ vacant_slots n
  shown_new n = search (arith, map-replicate)

-- slots that have no body
pub all_none : {B : Type 0} (ss : List (Option B)) (n : ℕ) → length ss ≡ n → ((k : ℕ) → k < n → get_or ss k None ≡ None)
    → ss ≡ replicate n None
all_none ss n long none = ext_get_or None ss (replicate n None) (long ∙ sym (length-replicate n None))
    (search (arith, get_or-replicate))

-- a slot whose body was taken is vacant
pub vacant_taken_from : {B : Type 0} (ss : List (Option B)) (ps : List Phase) (taken : List Bool)
    (tied : ArenaInvariant ss ps taken) (k : ℕ) → IsHeld ss ps taken tied k
    → is_vacant_at (slots_shown (set ss k None) (set ps k Vacant)) k ≡ true
vacant_taken_from ss ps taken tied k held =
    vacant_phase (set ss k None) (set ps k Vacant) (set taken k false) (tied_take ss ps taken tied k held) k
    ∙ vacant_take ss ps taken tied k held
