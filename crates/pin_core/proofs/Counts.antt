-- Counts over a list that gains or loses one element.
use Rattle.std.proofs.Common.{get_or, ◌≡◌, ℕ, ◌+◌, ◌<◌, ◌≤◌, Bool, true, false, Some, None, zero, suc, length, cond, List, [], ◌∷◌, ◌++◌, reverse, sym, refl, ap, ◌∙◌, arith}
use Rattle.std.specs.List.{count_by, position, position_or_len, remove}
use Rattle.std.proofs.lemmas.List.{append-nil, reverse-append, reverse-reverse}
use Rattle.std.proofs.lemmas.List.Recursion.{is_count_by}
use Rattle.pin_core.specs.Holds.{drop_first, drop_last, tally, weight, with_hold}
use Rattle.pin_core.specs.declared.holders.Hold.{Hold}

module _ {X : Type 0} where
  pub count-snoc : (p : X → Bool) (xs : List X) (y : X) → tally p (xs ++ y ∷ []) ≡ tally p xs + weight (p y)
  count-snoc p [] y = omega arith
  count-snoc p (x ∷ xs) y = let ih = count-snoc p xs y in omega arith

  pub count-le : (p q : X → Bool) (xs : List X) → ((x : X) → p x ≡ true → q x ≡ true) → tally p xs ≤ tally q xs
  count-le p q [] h = omega arith
  count-le p q (x ∷ xs) h = search (arith, count-le p q xs h)

  pub count-drop-le : (p q : X → Bool) (xs : List X) → tally p (drop_first q xs) ≤ tally p xs
  count-drop-le p q [] = omega arith
  count-drop-le p q (x ∷ xs) = search (arith, count-drop-le p q xs)

  -- where what goes is counted as b
  pub count-drop : (p q : X → Bool) (b : Bool) (xs : List X) → ((x : X) → q x ≡ true → p x ≡ b) → 0 < tally q xs
      → tally p (drop_first q xs) + weight b ≡ tally p xs
  count-drop p q b [] h some = absurd (omega arith)
  count-drop p q b (x ∷ xs) h some = search (arith, count-drop p q b xs h)

  pub count-append : (p : X → Bool) (xs ys : List X) → tally p (xs ++ ys) ≡ tally p xs + tally p ys
  count-append p [] ys = omega arith
  count-append p (x ∷ xs) ys = let ih = count-append p xs ys in omega arith

  pub drop-absent : (p : X → Bool) (xs : List X) → tally p xs ≡ 0 → drop_first p xs ≡ xs
  drop-absent p [] e = refl
  drop-absent p (x ∷ xs) e = search (arith, drop-absent p xs)

  pub drop-in-first : (p : X → Bool) (xs ys : List X) → 0 < tally p xs → drop_first p (xs ++ ys) ≡ drop_first p xs ++ ys
  drop-in-first p [] ys some-here = absurd (omega arith)
  drop-in-first p (x ∷ xs) ys some-here = search (arith, drop-in-first p xs ys)

  pub drop-in-later : (p : X → Bool) (xs ys : List X) → tally p xs ≡ 0 → drop_first p (xs ++ ys) ≡ xs ++ drop_first p ys
  drop-in-later p [] ys e = refl
  drop-in-later p (x ∷ xs) ys e = search (arith, drop-in-later p xs ys)

  tally-reverse : (p : X → Bool) (xs : List X) → tally p (reverse xs) ≡ tally p xs
  tally-reverse p [] = refl
  tally-reverse p (x ∷ xs) = let ih = tally-reverse p xs in let back = ap (tally p) (reverse-append (x ∷ []) xs) in
      let more = count-snoc p (reverse xs) x in omega arith

  pub count-drop_last-le : (p q : X → Bool) (xs : List X) → tally p (drop_last q xs) ≤ tally p xs
  count-drop_last-le p q xs = search (arith, count-drop-le, tally-reverse)

  -- where what goes is counted as b
  pub count-drop_last : (p q : X → Bool) (b : Bool) (xs : List X) → ((x : X) → q x ≡ true → p x ≡ b) → 0 < tally q xs
      → tally p (drop_last q xs) + weight b ≡ tally p xs
  count-drop_last p q b xs h some = search (arith, count-drop, tally-reverse)

  pub drop_last-absent : (p : X → Bool) (xs : List X) → tally p xs ≡ 0 → drop_last p xs ≡ xs
  drop_last-absent p xs none = search (arith, drop-absent, tally-reverse, reverse-reverse)

  -- by places: none passes, or one does
  pub none-at : (p : X → Bool) (xs : List X) (d : X) → ((k : ℕ) → k < length xs → p (get_or xs k d) ≡ false)
      → tally p xs ≡ 0
  none-at p [] d fails = refl
  none-at p (x ∷ xs) d fails = let later = none-at p xs d (λ k within. fails (suc k) (omega arith)) in
      let here : weight (p x) ≡ 0 = ap weight (fails 0 (omega arith)) in omega arith

  pub some-at : (p : X → Bool) (xs : List X) (i : ℕ) (d : X) → i < length xs → p (get_or xs i d) ≡ true → 0 < tally p xs
  some-at p [] i d h e = absurd (omega arith)
  some-at p (x ∷ xs) zero d h e = search arith
  some-at p (x ∷ xs) (suc i) d h e = let ih = some-at p xs i d (omega arith) e in omega arith

  -- what is removed where the last one that passes stands
  pub remove-last : (p : X → Bool) (xs : List X) (i : ℕ) (d : X) → i < length xs → p (get_or xs i d) ≡ true
      → ((k : ℕ) → i < k → k < length xs → p (get_or xs k d) ≡ false) → remove xs i ≡ drop_last p xs
  remove-last p [] i d inside here after = absurd (omega arith)
  remove-last p (x ∷ xs) zero d inside here after =
      let later : tally p (reverse xs) ≡ 0 = tally-reverse p xs
      ∙ none-at p xs d (λ k within. after (suc k) (omega arith) (omega arith)) in
      sym (ap (λ (z : List X). reverse (drop_first p z)) (reverse-append (x ∷ []) xs)
      ∙ (search (arith, drop-in-later, append-nil, reverse-reverse)))
  remove-last p (x ∷ xs) (suc i) d inside here after =
      let some : 0 < tally p (reverse xs) = let have = some-at p xs i d (omega arith) here in
      let same = tally-reverse p xs in omega arith in
      ap (λ (z : List X). x ∷ z) (remove-last p xs i d (omega arith) here
      (λ k behind within. after (suc k) (omega arith) (omega arith)))
      ∙ sym (ap (λ (z : List X). reverse (drop_first p z)) (reverse-append (x ∷ []) xs)
      ∙ (search (arith, drop-in-first, reverse-append)))

  -- the count of a chain of iterators
  pub tally-count : (p : X → Bool) (xs : List X) → count_by p xs ≡ tally p xs
  tally-count p xs = sym (is_count_by (tally p) p refl (λ x ys. cases (p x) (tally p ys)) xs)
    where
      cases : (b : Bool) (n : ℕ) → weight b + n ≡ cond b (1 + n) n
      cases true n = refl
      cases false n = omega arith

pos-later : {X : Type 0} (p : X → Bool) (x : X) (xs : List X) → p x ≡ false
    → position_or_len p (x ∷ xs) ≡ suc (position_or_len p xs)
pos-later p x xs e = grind arith

-- what `position` and `remove` leave
pub remove-first : {X : Type 0} (p : X → Bool) (xs : List X) → position_or_len p xs < length xs
    → remove xs (position_or_len p xs) ≡ drop_first p xs
remove-first p [] h = absurd (omega arith)
remove-first {X = X} p (x ∷ xs) h = search (arith, pos-later, remove-first p xs)

-- where an element passes, there is a first
pub some-first : {X : Type 0} (p : X → Bool) (xs : List X) → 0 < tally p xs → position_or_len p xs < length xs
some-first p [] h = absurd (omega arith)
some-first p (x ∷ xs) h = search (arith, some-first p xs)

pub first-found : {X : Type 0} (p : X → Bool) (xs : List X) → 0 < tally p xs
    → position p xs ≡ Some (position_or_len p xs)
first-found p xs have = search (arith, some-first)

pub none-found : {X : Type 0} (p : X → Bool) (xs : List X) → position p xs ≡ None → tally p xs ≡ 0
none-found p xs e = search (arith, first-found)

-- a triple more is counted by what it is
pub count-with_hold : (p : Hold → Bool) (t : Hold) (hs : List Hold)
    → tally p (with_hold t hs) ≡ tally p hs + weight (p t)
count-with_hold p t [] = omega arith
count-with_hold p t (h ∷ hs) = search (arith, count-with_hold p t hs)

-- what is removed where `position` found it
pub found_some : {X : Type 0} (p : X → Bool) (xs : List X) (n : ℕ) (d : X) → position p xs ≡ Some n
    → remove xs n ≡ drop_first p xs
found_some p xs n d e = search (arith, remove-first)
