-- Numbers take effect one after another where they are ready: that is settling, as long as none that is ready is below
-- the next.
use Rattle.ob_waits.proofs.Cited.{inl, inr, at_place, ◌≡◌, ℕ, zero, suc, ◌+◌, ◌<◌, ◌≤◌, List, [], ◌∷◌, length, Option, Some, None, subst, arith, drop, eqb, get_or, set, Bool, true, false, list_any, ◌&&◌, not, IfSome, drop_all, drop_more, list_any_at, count_by-le-length, fails_before_first, passes_at_first, true_from_ne_false, Id, Body, Mode, Pending, Wait, numbers_of, Thins, CountedBodies, slot_signaled, AreIndexed, Covers, IsOnlyIn, IsReadyAt, IsReadyBy, IsRising, IsSettled, IsSpent, thread_of, nowhere, Scene, answered, is_ready, is_pending, ids_of, first_ready, first_signaled, effect, passed, settled, settled_within}
use Rattle.std.specs.Bool.{if◌then◌else◌}
use Rattle.std.proofs.lemmas.Bool.{cases_Bool}
use Rattle.ob_waits.specs.declared.wait.Mode.TheVariants.{Any}
use Rattle.ob_waits.proofs.Keeping.{Fade}
use Rattle.ob_waits.proofs.NumberLaws.{thins_both, thins_first}
use Rattle.ob_waits.proofs.Settling.{pending_count, ready_within, ready_counted, ready_where, fewer, was_ready, answers, settled_none, settled_same, settled_first, first_is}
use Rattle.ob_waits.proofs.Settled.{settled_replaced}

settled_fuel : (f g : ℕ) (s : Scene) → pending_count s.waits ≤ f → pending_count s.waits ≤ g
    → settled_within f s ≡ settled_within g s
settled_fuel zero g s a b = search (arith, ready_counted, settled_none)
settled_fuel (suc f) zero s a b = settled_none (suc f) s (search (arith, ready_counted))
settled_fuel (suc f) (suc g) s a b =
    search (arith, passes_at_first, fewer, settled_fuel f g (effect s (first_ready s.objects.bodies s.waits)))

-- the least number that is ready takes effect first
settled_next : (s : Scene) (m : ℕ) → is_ready s.objects.bodies (get_or s.waits m None) ≡ true
    → ((k : ℕ) → k < m → is_ready s.objects.bodies (get_or s.waits k None) ≡ false) → settled (effect s m) ≡ settled s
settled_next s m ready below =
    let less = fewer s m (ready_within s m ready) ready in
    let few = count_by-le-length is_pending s.waits in
    let few' = count_by-le-length is_pending (effect s m).waits in
    let same = settled_fuel (suc (length (effect s m).waits)) (length s.waits) s in
    search (arith, first_is, settled_first, few', same)

-- a number takes effect, where it is ready: what is ready then was ready, and is above it
pub record Steps (m : ℕ) (s after : Scene) : Type 0 where
  pub same : settled after ≡ settled s
  pub later : (k : ℕ) → is_ready after.objects.bodies (get_or after.waits k None) ≡ true
      → (is_ready s.objects.bodies (get_or s.waits k None) ≡ true) × (m < k)

pub steps : (m : ℕ) (s : Scene) → ((k : ℕ) → is_ready s.objects.bodies (get_or s.waits k None) ≡ true → m ≤ k)
    → Steps m s (passed (m ∷ []) s)
steps m s least = search (arith, settled_next, was_ready)

-- the numbers of a list from an index on
rising_drop : (i : ℕ) (ns : List ℕ) → IsRising ns → IsRising (drop i ns)
rising_drop zero ns r = r
rising_drop (suc i) ns r = grind (arith, rising_drop i)

pub record StepsOn (ns : List ℕ) (i : ℕ) (s after : Scene) : Type 0 where
  pub same : settled after ≡ settled s
  pub covers : Covers (drop (i + 1) ns) after

pub steps_on : (ns : List ℕ) (i : ℕ) (s : Scene) → i < length ns → IsRising ns → Covers (drop i ns) s
    → StepsOn ns i s (passed (get_or ns i 0 ∷ []) s)
steps_on ns i s lt rising covers =
    let now : Covers (get_or ns i 0 ∷ drop (i + 1) ns) s = search (arith, drop_more) in
    let above : IsRising (get_or ns i 0 ∷ drop (i + 1) ns) = subst IsRising (drop_more ns i 0 lt)
    (rising_drop i ns rising) in
    let step = steps (get_or ns i 0) s (λ k ready. grind (arith, now.each k, above.0 k)) in
    search (arith, now.each, step.later)

pub covered_all : (ns : List ℕ) (i : ℕ) (s : Scene) → length ns ≤ i → Covers (drop i ns) s → settled s ≡ s
covered_all ns i s past covers = search (arith, drop_all, settled_same)

module _ (changed : ℕ → Bool) (bodies : List (Option Body)) (ws : List (Option Wait))
    (by : IsReadyBy changed bodies ws) where
  -- a wait isn't ready where each changed slot that it names is signaled for its thread in vain
  pub unready : (n : ℕ) → ((t i : ℕ) → thread_of (get_or ws n None) ≡ Some t → i < length (ids_of (get_or ws n None))
      → changed (get_or (ids_of (get_or ws n None)) i nowhere).slot ≡ true
      → slot_signaled t (get_or bodies (get_or (ids_of (get_or ws n None)) i nowhere).slot None) ≡ false)
      → is_ready bodies (get_or ws n None) ≡ false
  unready n none = search (arith, ready_where)

  -- one that is ready names a slot that changed
  pub names_changed : (n : ℕ) → is_ready bodies (get_or ws n None) ≡ true
      → list_any (λ (id : Id). changed id.slot) (ids_of (get_or ws n None)) ≡ true
  names_changed n ready = search (arith, unready, list_any_at, true_from_ne_false)

  -- where no changed slot has anything for who waits, all is settled
  pub settled_spent : ((k : ℕ) → changed k ≡ true → IsSpent bodies ws k) → IsSettled bodies ws
  settled_spent spent = search (arith, unready)

-- the lists have the numbers of all waits that are ready
pub covers_order : (objects : CountedBodies) (ws : List (Option Wait)) (order : List ℕ) (index : List (List ℕ))
    → AreIndexed ws order index → Covers order (record { objects = objects; waits = ws })
covers_order objects ws order index a = search arith

pub covers_slot : (objects : CountedBodies) (slot : ℕ) (ws : List (Option Wait)) (order : List ℕ)
    (index : List (List ℕ))
    → IsReadyAt slot objects.bodies ws → AreIndexed ws order index
    → Covers (numbers_of index slot) (record { objects = objects; waits = ws })
covers_slot objects slot ws order index at a = record {
  each = λ n ready. (a.index_all slot).each n
      (names_changed (λ k. eqb k slot) objects.bodies ws at n ready);
}

-- an effect signals nothing, and what it answers isn't ready
pub by_passed : (changed : ℕ → Bool) (m : ℕ) (s : Scene) → IsReadyBy changed s.objects.bodies s.waits
    → IsReadyBy changed (passed (m ∷ []) s).objects.bodies (passed (m ∷ []) s).waits
by_passed changed m s r = elim (cases_Bool (is_ready s.objects.bodies (get_or s.waits m None))) [
  | inl ready ↦ let a = answers s m ready in rw ready (record {
    before = r.before;
    settled = search (arith, settled_replaced);
    less = λ t k out signaled. r.less t k out (a.less.each t (record { slot = k; generation = 0 }) signaled);
  })
  | inr none ↦ rw none r
]

-- a wait that was answered is not pending
pub answered_not_pending : (ws : List (Option Wait)) (n code : ℕ)
    → is_pending (get_or (set ws n (answered (get_or ws n None) code)) n None) ≡ false
answered_not_pending ws n code = grind (arith, at_place)

-- what may leave a list still may, once more waits were answered
pub thins_faded : (ws ws' : List (Option Wait)) (old new : List ℕ) → Fade ws ws' → Thins ws old new → Thins ws' old new
thins_faded ws ws' old new fade t = search arith

-- one more leaves the front of a list, where all before it may
pub thins_on : (ws ws' : List (Option Wait)) (ns : List ℕ) (at over : ℕ) (all pending : Bool) → Fade ws ws' → at < length ns
    → pending ≡ is_pending (get_or ws' (get_or ns at 0) None) → (all ≡ true → over ≡ at)
    → (all ≡ true → Thins ws ns (drop over ns))
    → not pending && all ≡ true → Thins ws' ns (drop (if not pending then at + 1 else over) ns)
thins_on = search (arith, thins_faded, thins_both, thins_first)

-- where none outside of a slot is signaled, none is before the first in the slot
pub before_first : (given : Option ℕ) (slot place thread : ℕ) (bodies : List (Option Body)) (ids : List Id)
    → given ≡ Some slot → place ≤ length ids → ((i : ℕ) → i < place → (get_or ids i nowhere).slot ≡ slot → ⊥)
    → IsOnlyIn given thread bodies ids
    → place ≤ first_signaled thread bodies ids
before_first given slot place thread bodies ids is most others only =
    let k = first_signaled thread bodies ids in grind (arith, only.others slot k, others k, passes_at_first)

-- an object of a pending wait for any that is signaled is in the slot that waits are ready by
pub only_in : (slot : Option ℕ) (bodies : List (Option Body)) (ws : List (Option Wait)) (n : ℕ) (w : Wait) (mode : Mode)
    (ids : List Id) → IfSome slot (λ s. IsReadyAt s bodies ws) → get_or ws n None ≡ Some w → w.state ≡ Pending mode ids
    → mode ≡ Any → IsOnlyIn slot w.thread bodies ids
only_in = search (arith, unready, fails_before_first)
