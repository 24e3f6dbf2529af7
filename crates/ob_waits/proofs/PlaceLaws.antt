-- What the places and the overflow have at each number, and how that changes.
use Rattle.ob_waits.proofs.Cited.{at_place, nat_tests, ◌≡◌, ℕ, ◌<◌, ◌≤◌, ◌+◌, ◌*◌, ◌-◌, ◌%◌, ◌^◌, List, Option, Some, None, length, arith, get_or, set, true, cond, eqb, is_some, get_or-set_same, get_or-set_other, get_or_past, get_or_default, NumberedThread, home, thread_or, thread_in, IsPlaced, AreApart, IsSpread}
use Rattle.std.proofs.lemmas.Nat.{and_mask, and_le_r, pow_pos, pow-add}
use Rattle.std.proofs.Math.Pow.{mod-mod-pow}

-- a list changed at one place
pub set_read : {A : Type 0} (ps : List (Option A)) (k : ℕ) (y : Option A) → k < length ps → (i : ℕ)
    → get_or (set ps k y) i None ≡ cond (eqb k i) y (get_or ps i None)
set_read ps k y lt i = search (arith, get_or-set_other, get_or-set_same)

same_placed : {mask : ℕ} {ps qs : List (Option NumberedThread)} {f g : ℕ → Option ℕ}
    → ((i : ℕ) → get_or qs i None ≡ get_or ps i None) → ((n : ℕ) → g n ≡ f n) → IsPlaced mask ps f → IsPlaced mask qs g
same_placed places overflow placed = record {
  each = λ i entry is. grind (arith, places i, overflow entry.number, placed.each i entry);
}

-- a new number at its place, and what stood there goes to the overflow
module _ (mask : ℕ) (ps qs : List (Option NumberedThread)) (f g : ℕ → Option ℕ) (e : NumberedThread)
    (placed : IsPlaced mask ps f)
    (new : (i : ℕ) → get_or qs i None ≡ cond (eqb (home mask e.number) i) (Some e) (get_or ps i None))
    (moved : (q : ℕ) → g q ≡ thread_or q (get_or ps (home mask e.number) None) (f q)) where
  inserted : (q : ℕ) → thread_in mask qs g q ≡ cond (eqb e.number q) (Some e.thread) (thread_in mask ps f q)
  inserted q = grind (arith, nat_tests, new (home mask q), moved q)

  inserted_placed : thread_in mask ps f e.number ≡ None → IsPlaced mask qs g
  inserted_placed free = record {
    each = λ i entry is. grind (arith, nat_tests, new i, moved entry.number, placed.each i entry, placed.each (home mask e.number));
  }

-- a number is put at its place, of places of which there may be more
module _ (mask : ℕ) (ps more : List (Option NumberedThread)) (e : NumberedThread) (x y : Option NumberedThread)
    (room : mask < length more) (same : (i : ℕ) → get_or more i None ≡ get_or ps i None)
    (is : x ≡ get_or more (home mask e.number) x) where
  module _ (f g : ℕ → Option ℕ) (placed : IsPlaced mask ps f) (new : y ≡ Some e) (moved : (n : ℕ)
      → g n ≡ thread_or n x (f n)) where
    pub put_threads : (q : ℕ) → thread_in mask (set more (home mask e.number) y) g q
        ≡ cond (eqb e.number q) (Some e.thread) (thread_in mask ps f q)
    put_threads q = search (arith, inserted, same_placed, set_read, and_le_r, get_or_default)

    pub put_placed : thread_in mask ps f e.number ≡ None → IsPlaced mask (set more (home mask e.number) y) g
    put_placed free = search (arith, inserted_placed, same_placed, set_read, and_le_r, get_or_default)

  -- and where memory is wanting all is as it was
  pub unput : y ≡ x → (i : ℕ) → get_or (set more (home mask e.number) y) i None ≡ get_or ps i None
  unput kept i = search (arith, set_read, and_le_r, get_or_default)

-- a number leaves its place, or the overflow
pub left_placed : (mask : ℕ) (ps qs : List (Option NumberedThread)) (f : ℕ → Option ℕ) (n : ℕ) → IsPlaced mask ps f
    → ((i : ℕ) → get_or qs i None ≡ cond (eqb (home mask n) i) None (get_or ps i None)) → IsPlaced mask qs f
left_placed mask ps qs f n placed new = record {
  each = λ i entry has. grind (arith, nat_tests, new i, placed.each i entry);
}

pub left_others_placed : (mask : ℕ) (ps : List (Option NumberedThread)) (f g : ℕ → Option ℕ) (n : ℕ)
    → ((q : ℕ) → g q ≡ cond (eqb n q) None (f q)) → IsPlaced mask ps f → IsPlaced mask ps g
left_others_placed mask ps f g n new placed = record {
  each = λ i entry is. grind (arith, nat_tests, new entry.number, placed.each i entry);
}

-- the places of a longer mask: two numbers that have one there have one
module _ (mask : ℕ) (ps : List (Option NumberedThread)) (f : ℕ
    → Option ℕ) (bits : ℕ) (placed : IsPlaced mask ps f) (is : mask ≡ 2 ^ bits - 1) where
  abbrev wide : ℕ
  wide = mask * 2 + 1

  pub wide_is : wide ≡ 2 ^ (1 + bits) - 1
  wide_is = search (arith, pow-add, pow_pos)

  narrow : (n : ℕ) → home mask n ≡ home wide n % 2 ^ bits
  narrow n = search (arith, wide_is, and_mask, mod-mod-pow)

  pub apart_wide : AreApart wide ps
  apart_wide = search (arith, narrow)

  pub spread_placed : (qs : List (Option NumberedThread)) → IsSpread wide ps qs → IsPlaced wide qs f
  spread_placed qs spread = record { each = λ i e at. grind (arith, spread.only i e, placed.each) }

-- the first so many of some places are spread
pub record Spreads (count mask : ℕ) (from to : List (Option NumberedThread)) : Type 0 where
  pub all : (i : ℕ) (entry : NumberedThread) → i < count → get_or from i None ≡ Some entry
      → get_or to (home mask entry.number) None ≡ Some entry
  pub only : (i : ℕ) (entry : NumberedThread) → get_or to i None ≡ Some entry
      → (home mask entry.number ≡ i) × ((j : ℕ) × (j < count) × (get_or from j None ≡ Some entry))

module _ (mask : ℕ) (from to : List (Option NumberedThread)) where
  pub spreads_all : (count : ℕ) → length from ≤ count → Spreads count mask from to → IsSpread mask from to
  spreads_all count le s = record {
    all = search (arith, get_or_past);
    only = λ i e is. search (arith, s.only i e is);
  }

  module _ (i : ℕ) (s : Spreads i mask from to) where
    pub spreads_empty : get_or from i None ≡ None → Spreads (i + 1) mask from to
    spreads_empty none = search arith

    pub spreads_one : (e : NumberedThread) → AreApart mask from → mask < length to → get_or from i None ≡ Some e
        → Spreads (i + 1) mask from (set to (home mask e.number) (Some e))
    spreads_one e apart room is = let fits = and_le_r e.number mask in record {
      all = λ j x lt at. grind (arith, nat_tests, at_place, s.all j x, apart.apart i j e x);
      only = λ k x at. grind (arith, nat_tests, at_place, s.only k x);
    }

-- a number stands at a place
pub stands_there : (n : ℕ) (p : Option NumberedThread) → is_some (thread_or n p None) ≡ true
    → (e : NumberedThread) × (p ≡ Some e) × (e.number ≡ n)
stands_there = search arith
