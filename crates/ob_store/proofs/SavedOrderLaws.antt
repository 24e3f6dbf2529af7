-- The order of births rises, and has the births of the objects, each with its slot, and no others; births that are distinct are ordered.
use Rattle.ob_store.proofs.Cited.{insert_entry, is_at, nat_cmp, Object, Births, births_from, ◌≡◌, ℕ, ◌≢◌, suc, ◌<◌, true, false, cond, List, [], ◌∷◌, Option, Some, None, Ok, refl, ◌∙◌, arith, eq-eqb, ne_eqb, unsigned_tied, lookup, Less, Greater, ◌⊎◌, zero, ◌+◌, ◌≤◌, Bool, get_or, sym, inl, inr, AreBorn}

-- the slot that has a birth
abbrev pub taken : Births → ℕ → Option ℕ
taken es birth = lookup (is_at (nat_cmp birth)) es

-- what the order of two numbers says of them
pub is_less : (b c : ℕ) → nat_cmp b c ≡ Less → b < c
is_less b c e = search arith

pub is_greater : (b c : ℕ) → nat_cmp b c ≡ Greater → c < b
is_greater b c e = search arith

pub at_is : (c b : ℕ) → is_at (nat_cmp c) b ≡ true → c ≡ b
at_is c b e = search arith

pub at_same : (b : ℕ) → is_at (nat_cmp b) b ≡ true
at_same b = unsigned_tied b b ∙ eq-eqb b b refl

pub at_other : (c b : ℕ) → c ≢ b → is_at (nat_cmp c) b ≡ false
at_other c b apart = unsigned_tied c b ∙ ne_eqb c b apart

-- what has a birth once one came
pub taken_inserted : (es : Births) (b slot c : ℕ) →
    taken (insert_entry nat_cmp es b slot) c ≡ cond (is_at (nat_cmp c) b) (Some slot) (taken es c)
taken_inserted [] b slot c = refl
taken_inserted (x ∷ es) b slot c = search (arith, taken_inserted es b slot c)

module _ (births : ℕ) (order : Births) where
  -- one object more
  pub births_step : (slot : ℕ) (so_far : Births) (x : Object) (objects : List (Option Object)) →
      births_from births so_far slot (Some x ∷ objects) ≡ Ok order →
      (x.birth < births) × (taken so_far x.birth ≡ None) ×
      (births_from births (insert_entry nat_cmp so_far x.birth slot) (suc slot) objects ≡ Ok order)
  births_step slot so_far x objects e = search arith

-- births from one number on, below another, each above the one before it
unfoldable pub Rises : ℕ → ℕ → Births → Type 0
Rises low high [] = Unit {0}
Rises low high (e ∷ es) = (low ≤ e.0) × (e.0 < high) × Rises (suc e.0) high es

still-rises : (low high : ℕ) (es : Births) (b slot : ℕ) → low ≤ b → b < high → Rises low high es →
    Rises low high (insert_entry nat_cmp es b slot)
unfolding Rises
still-rises low high [] b slot from below r = (from, below, tt)
still-rises low high (x ∷ es) b slot from below r =
    grind (arith, is_less, is_greater, still-rises (suc x.0) high es b slot)

-- a birth that is below all isn't there
pub none_below : (low high : ℕ) (es : Births) (b : ℕ) → b < low → Rises low high es → taken es b ≡ None
unfolding Rises
none_below low high [] b less r = refl
none_below low high (x ∷ es) b less r = search (arith, none_below (suc x.0) high es b (omega (arith, less)) r.2)

taken_below : (low high : ℕ) (es : Births) (b k : ℕ) → Rises low high es → taken es b ≡ Some k → b < high
unfolding Rises
taken_below low high [] b k r is = absurd cc
taken_below low high (x ∷ es) b k r is = search (arith, at_is, taken_below (suc x.0) high es b k r.2)

-- the order of the births of objects
pub record IsOrder (objects : List (Option Object)) (births : ℕ) (order : Births) : Type 0 where
  pub rises : Rises 0 births order
  pub each : (k : ℕ) (o : Object) → get_or objects k None ≡ Some o → taken order o.birth ≡ Some k
  pub own : (b k : ℕ) → taken order b ≡ Some k → (o : Object) × (get_or objects k None ≡ Some o) × (o.birth ≡ b)

-- what has a birth had it before, or is one of the objects that came
abbrev Came : Births → ℕ → List (Option Object) → ℕ → ℕ → Type 0
Came so_far slot objects b k =
    (taken so_far b ≡ Some k) ⊎
    ((j : ℕ) × (o : Object) × (get_or objects j None ≡ Some o) × (o.birth ≡ b) × (slot + j ≡ k))

module _ (births : ℕ) (order : Births) where
  rises-still : (slot : ℕ) (so_far : Births) (objects : List (Option Object)) → Rises 0 births so_far →
      births_from births so_far slot objects ≡ Ok order → Rises 0 births order
  rises-still slot so_far [] r e = search arith
  rises-still slot so_far (None ∷ objects) r e = rises-still (suc slot) so_far objects r e
  rises-still slot so_far (Some x ∷ objects) r e =
      let s = births_step births order slot so_far x objects e in
      rises-still (suc slot) (insert_entry nat_cmp so_far x.birth slot) objects
      (search (arith, still-rises)) s.2

  -- what has a birth keeps it
  taken-still : (slot : ℕ) (so_far : Births) (objects : List (Option Object)) →
      births_from births so_far slot objects ≡ Ok order → (b k : ℕ) → taken so_far b ≡ Some k → taken order b ≡ Some k
  taken-still slot so_far [] e b k is = search arith
  taken-still slot so_far (None ∷ objects) e b k is = taken-still (suc slot) so_far objects e b k is
  taken-still slot so_far (Some x ∷ objects) e b k is =
      let s = births_step births order slot so_far x objects e in
      taken-still (suc slot) (insert_entry nat_cmp so_far x.birth slot) objects s.2 b k
      (search (arith, taken_inserted))

  each-taken : (slot : ℕ) (so_far : Births) (objects : List (Option Object)) →
      births_from births so_far slot objects ≡ Ok order →
      (k : ℕ) (o : Object) → get_or objects k None ≡ Some o → taken order o.birth ≡ Some (slot + k)
  each-taken slot so_far [] e k o is = absurd cc
  each-taken slot so_far (None ∷ objects) e zero o is = absurd cc
  each-taken slot so_far (None ∷ objects) e (suc k) o is = search (arith, each-taken (suc slot) so_far objects e k o is)
  each-taken slot so_far (Some x ∷ objects) e zero o is =
      let s = births_step births order slot so_far x objects e in
      search (arith, taken_inserted, taken-still (suc slot) (insert_entry nat_cmp so_far x.birth slot) objects s.2 x.birth slot)
  each-taken slot so_far (Some x ∷ objects) e (suc k) o is =
      let s = births_step births order slot so_far x objects e in
      search (arith, each-taken (suc slot) (insert_entry nat_cmp so_far x.birth slot) objects s.2 k o is)

  came-later : (slot : ℕ) (so_far : Births) (x : Option Object) (objects : List (Option Object)) (b k : ℕ) →
      Came so_far (suc slot) objects b k → Came so_far slot (x ∷ objects) b k
  came-later slot so_far x objects b k came = elim came [
    | inl before ↦ inl before
    | inr c ↦ inr (suc c.0, c.1, c.2, c.3, (omega arith))
  ]

  came : (slot : ℕ) (so_far : Births) (objects : List (Option Object)) →
      births_from births so_far slot objects ≡ Ok order →
      (b k : ℕ) → taken order b ≡ Some k → Came so_far slot objects b k
  came slot so_far [] e b k is = search arith
  came slot so_far (None ∷ objects) e b k is = search (arith, came-later, came (suc slot) so_far objects e b k is)
  came slot so_far (Some x ∷ objects) e b k is =
      let s = births_step births order slot so_far x objects e in
      elim (came (suc slot) (insert_entry nat_cmp so_far x.birth slot) objects s.2 b k is) [
        | inl before ↦ by (is_at (nat_cmp b) x.birth) refl (sym (taken_inserted so_far x.birth slot b) ∙ before)
        | inr c ↦ came-later slot so_far (Some x) objects b k (inr c)
      ]
    where
      by : (t : Bool) → is_at (nat_cmp b) x.birth ≡ t → cond t (Some slot) (taken so_far b) ≡ Some k →
          Came so_far slot (Some x ∷ objects) b k
      by true it here = inr (0, x, refl, sym (at_is b x.birth it), search arith)
      by false it before = inl before

  pub is_order : (objects : List (Option Object)) → births_from births [] 0 objects ≡ Ok order →
      IsOrder objects births order
  unfolding Rises
  is_order objects e = record {
    rises = rises-still 0 [] objects tt e;
    each = search (arith, each-taken);
    own = λ b k is. elim (came 0 [] objects e b k is) [
      | inl before ↦ absurd cc
      | inr c ↦ search arith
    ];
  }

  -- so births are distinct, and below their count
  pub ordered_born : (objects : List (Option Object)) → births_from births [] 0 objects ≡ Ok order →
      AreBorn objects births
  ordered_born objects e =
      let o = is_order objects e in record {
        below = λ k x is. taken_below 0 births order x.birth k o.rises (o.each k x is);
        apart = λ j k x y is it same. grind (arith, o.each j x is, o.each k y it, same);
      }

-- and births that are distinct, and below their count, have an order
born-later : (x : Option Object) (xs : List (Option Object)) (births : ℕ) → AreBorn (x ∷ xs) births → AreBorn xs births
born-later x xs births born = record {
  below = λ k o is. born.below (suc k) o is;
  apart = λ j k o p is it same. (let e = born.apart (suc j) (suc k) o p is it same in omega arith);
}

from-again : (births : ℕ) (so_far : Births) (slot : ℕ) (objects : List (Option Object)) → AreBorn objects births
    → ((k : ℕ) (o : Object) → get_or objects k None ≡ Some o → taken so_far o.birth ≡ None)
    → (order : Births) × (births_from births so_far slot objects ≡ Ok order)
from-again births so_far slot [] born free = (so_far, refl)
from-again births so_far slot (None ∷ objects) born free =
    from-again births so_far (suc slot) objects (born-later None objects births born) (λ k. free (suc k))
from-again births so_far slot (Some x ∷ objects) born free =
    let new = free 0 x refl in
    let below = born.below 0 x refl in
    let rest = from-again births (insert_entry nat_cmp so_far x.birth slot) (suc slot) objects
    (born-later (Some x) objects births born)
    (λ k o is. grind (arith, taken_inserted, free (suc k) o is, born.apart (suc k) 0 o x is refl)) in
    search arith

pub births_again : (objects : List (Option Object)) (births : ℕ) → AreBorn objects births →
    (order : Births) × (births_from births [] 0 objects ≡ Ok order)
births_again objects births born = from-again births [] 0 objects born (λ k o is. refl)
