-- What is known of slots that were read.
use Rattle.ob_store.proofs.Cited.{◌≡◌, ℕ, zero, suc, ◌-◌, ◌≤◌, Bool, true, false, cond, leb, List, [], ◌∷◌, length, get_or, Option, Some, Ok, Err, sym, ap, subst, arith, Body, form_of, SavedObject, SavedSlot, Object, le-leb, ◌>>=◌, bind_ok, ok_is, w64, form_in, body_from, ends_used, filled, fresh_slot, keeper_slot, object_from, slot_at, with_fresh, Read, as_at, both_at, given_at, number_at, some_at, OptionFits, guard_passed, Value, unset, any_slot_at, content_at, object_stands, rows_at, slot_stands, descr_at, Descr, leb-true, cond_some, w32, padded_at}
use Rattle.ob_codec.specs.Reading.{list_at, option_at, items_at}
use Rattle.ob_codec.specs.Reading as reading
use Rattle.ob_store.proofs.UsedLaws.{fresh_long}
use Rattle.ob_store.specs.SavedSlots.{object_at, object_of, slot_of}
use Rattle.pin_core.proofs.Moves.{same_of_descr}
use Rattle.pin_core.specs.Descrs.{IsGiven, decoded}

-- what holds of all that is read so
abbrev pub Reads : {A : Type 0} → (List ℕ → Read A) → (A → Type 0) → Type 0
Reads {A = A} at P = (bytes rest : List ℕ) (x : A) → at bytes ≡ Ok (x, rest) → P x

-- what was read in parts
module _ {A B : Type 0} where
  pub as_split : (to : A → B) (at : List ℕ → Read A) (bytes : List ℕ) (x : B) (rest : List ℕ)
      → as_at to at bytes ≡ Ok (x, rest) → (a : A) × (at bytes ≡ Ok (a, rest)) × (to a ≡ x)
  as_split to at bytes x rest e = grind arith

  some-split : (to : A → Option B) (at : List ℕ → Read A) (bytes : List ℕ) (x : B) (rest : List ℕ)
      → some_at to at bytes ≡ Ok (x, rest) → (a : A × List ℕ) × (at bytes ≡ Ok a) × (to a.0 ≡ Some x)
  some-split to at bytes x rest e =
      (let b = bind_ok (at bytes) (λ (a : A × List ℕ). given_at (to a.0) a.1) (x, rest) e in (b.0, b.1, grind arith))

  as-reads : (to : A → B) (at : List ℕ → Read A) (P : B → Type 0) → Reads at (λ a. P (to a)) → Reads (as_at to at) P
  as-reads to at P all bytes rest x e =
      (let a = as_split to at bytes x rest e in rw a.2 at (all bytes rest a.0 a.1))

  first-reads : (a : List ℕ → Read A) (b : List ℕ → Read B) (P : A → Type 0) → Reads a P
      → Reads (both_at a b) (λ x. P x.0)
  first-reads a b P all bytes rest x e = grind arith

  second-reads : (a : List ℕ → Read A) (b : List ℕ → Read B) (P : B → Type 0) → Reads b P
      → Reads (both_at a b) (λ x. P x.1)
  second-reads a b P all bytes rest x e = grind arith

option-reads : {A : Type 0} (at : List ℕ → Read A) (P : A → Type 0) → Reads at P → Reads (option_at at) (OptionFits P)
unfolding option_at
option-reads at P all [] rest x e = absurd cc
option-reads at P all (zero ∷ bytes) rest x e = search arith
option-reads at P all (suc zero ∷ bytes) rest x e =
    (let b = bind_ok _ _ _ e in search (arith, all bytes b.0.1 b.0.0 b.1))
option-reads at P all (suc (suc n) ∷ bytes) rest x e = absurd cc

-- a word has the descriptor of an object that was read
decoded-given : (n : ℕ) (d : Descr) → decoded n ≡ Some d → IsGiven d
decoded-given n d e = grind arith

given-read : Reads descr_at IsGiven
given-read bytes rest d e =
    (let a = some-split decoded (number_at w64) bytes d rest e in decoded-given a.0.0 d a.2)

abbrev pub Given : Option SavedObject → Type 0
Given = OptionFits (λ o. IsGiven o.descr)

-- what is known of a slot that was read
pub record IsSlotSound (max_gen clock : ℕ) (x : SavedSlot) : Type 0 where
  pub stands : slot_stands max_gen clock x ≡ true
  pub given : Given x.object

object-given : Reads object_at (λ o. IsGiven o.descr)
object-given = as-reads object_of _ _ (second-reads (number_at w64) _ (λ p. IsGiven p.0)
    (first-reads descr_at content_at IsGiven given-read))

slot-given : Reads any_slot_at (λ x. Given x.object)
slot-given = as-reads slot_of _ _ (second-reads (number_at w32) _ (λ p. Given p.1)
    (second-reads reading.flag_at _ Given (option-reads object_at _ object-given)))

slot-sound : (max_gen clock : ℕ) → Reads (slot_at max_gen clock) (IsSlotSound max_gen clock)
slot-sound max_gen clock bytes rest x e =
    let b = bind_ok (any_slot_at bytes) _ (x, rest) e in
    let g = guard_passed _ _ b.0 _ b.2 in
    let given = slot-given bytes b.0.1 b.0.0 b.1 in
    search (arith, g.0, g.1, given)

-- a test of how many there are, behind which they are read
few_passed : {A : Type 0} (few : Bool) (r : Read A) (y : A × List ℕ) → cond few r (Err Value) ≡ Ok y
    → (few ≡ true) × (r ≡ Ok y)
few_passed = search arith

-- so many items, each of which is so
pub items_all : {A : Type 0} (at : List ℕ → Read A) (P : A → Type 0) → Reads at P → (d : A) → P d → (n : ℕ)
    → Reads (items_at at n) (λ xs. (length xs ≡ n) × ((k : ℕ) → P (get_or xs k d)))
unfolding items_at
items_all {A = A} at P all d none zero bytes rest xs e =
    (ap (λ (z : List A × List ℕ). length z.0) (sym (ok_is ([], bytes) (xs, rest) e)), search arith)
items_all {A = A} at P all d none (suc n) bytes rest xs e =
    let a = bind_ok (at bytes) (λ (x : A × List ℕ). items_at at n x.1 >>= λ (ys : List A × List ℕ). Ok (
      x.0 ∷ ys.0,
      ys.1,
    )) (xs, rest) e in
    let b = bind_ok _ _ _ a.2 in
    let ih = items_all at P all d none n a.0.1 b.0.1 b.0.0 b.1 in
    grind arith

-- so many slots, with those that never had an object
module _ (n max_gen clock : ℕ) (some : 1 ≤ max_gen) where
  fresh-sound : IsSlotSound max_gen clock fresh_slot
  fresh-sound = record { stands = search (arith, le-leb); given = tt }

  pub rows_all : (short : Bool) → Reads (rows_at short n max_gen clock)
      (λ xs. (length xs ≡ n) × ((k : ℕ) → IsSlotSound max_gen clock (get_or xs k fresh_slot)))
  unfolding list_at
  rows_all false bytes rest xs e = items_all _ _ (slot-sound _ _) _ fresh-sound n _ _ xs e
  rows_all true bytes rest xs e =
      let b = some-split (filled n) (list_at n (slot_at max_gen clock)) bytes xs rest e in
      let c = bind_ok (number_at w32 bytes)
      (λ (c : ℕ × List ℕ). cond (leb c.0 n) (items_at (slot_at max_gen clock) c.0 c.1) (Err Value)) b.0 b.1 in
      let few = few_passed (leb c.0.0 n) (items_at (slot_at max_gen clock) c.0.0 c.0.1) b.0 c.2 in
      let all = items_all _ _ (slot-sound max_gen clock) fresh_slot fresh-sound _ _ _ _ few.1 in
      let g = cond_some (ends_used b.0.0) (with_fresh n b.0.0) xs b.2 in
      let long = fresh_long n b.0.0 (omega (arith, all.0, leb-true c.0.0 n few.0)) in
      rw (← g.1) (long, λ k. rw padded_at (all.1 k))

-- one slot

pub slot_generation : (x : SavedSlot) → (keeper_slot x).generation ≡ x.generation
slot_generation x = search arith

module _ (max_gen clock : ℕ) (x : SavedSlot) (sound : IsSlotSound max_gen clock x) where
  pub slot_aged : (1 ≤ x.generation) × (x.generation ≤ max_gen)
  slot_aged = search arith

  stands : object_stands clock x.object ≡ true
  stands = search arith

  -- its body is what its descriptor says
  pub slot_formed : (k : ℕ) (o : Object) (b : Body) → object_from k x ≡ Some o → body_from x ≡ Some b →
      unset (form_of b) ≡ form_in o.descr
  slot_formed k o b is has = search (arith, stands, same_of_descr)
