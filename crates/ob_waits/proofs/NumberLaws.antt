-- A number put at the end of a list, and a list thinned.
use Rattle.ob_waits.proofs.Cited.{◌≡◌, ℕ, zero, suc, ◌+◌, ◌-◌, ◌<◌, ◌≤◌, List, [], ◌∷◌, ◌++◌, length, Option, None, refl, ap, ◌∙◌, arith, get_or, set, Bool, true, false, inl, inr, cond, take, drop, ◌⊎◌, filter, drop-append-le, drop-set, drop-take, drop_more, get_or_default, get_or-set_other, length-drop, length-set, length-take, take_more, take_more_set, Wait, Within, IsRising, IsOrdered, KeepsPending, ends_with, has_pending, Thins, is_pending}
use Rattle.std.proofs.Math.Seq.{take-length}

pub within_left : (n m : ℕ) (ns : List ℕ) → Within n ns → Within n (ns ++ m ∷ [])
within_left n m [] i = absurd i
within_left n m (x ∷ ns) i = elim i [ inl same ↦ inl same | inr later ↦ inr (within_left n m ns later) ]

pub within_last : (m : ℕ) (ns : List ℕ) → Within m (ns ++ m ∷ [])
within_last m [] = inl refl
within_last m (x ∷ ns) = inr (within_last m ns)

pub within_either : (n m : ℕ) (ns : List ℕ) → Within n (ns ++ m ∷ []) → Within n ns ⊎ (n ≡ m)
within_either n m [] i = search arith
within_either n m (x ∷ ns) i = search (arith, within_either n m ns)

pub rising_push : (m : ℕ) (ns : List ℕ) → ((k : ℕ) → Within k ns → k < m) → IsRising ns → IsRising (ns ++ m ∷ [])
rising_push m [] below r = search arith
rising_push m (x ∷ ns) below r = (
  (λ k later. grind (arith, within_either k m ns, r.0 k, below x)),
  rising_push m ns
      (λ k i. below k (inr i)) r.1,
)

-- the number at an index is there
pub within_at : (ns : List ℕ) (i : ℕ) → i < length ns → Within (get_or ns i 0) ns
within_at [] i lt = absurd (omega arith)
within_at (x ∷ ns) zero lt = inl refl
within_at (x ∷ ns) (suc i) lt = inr (within_at ns i (omega arith))

-- no number of a list is above its last
pub last_most : (k x : ℕ) (ns : List ℕ) → IsRising (x ∷ ns) → Within k (x ∷ ns) → k ≤ get_or (x ∷ ns) (length ns) 0
last_most k x [] r i = search arith
last_most k x (y ∷ ns) r i = grind (arith, r.0 y, last_most y y ns r.1, last_most k y ns r.1)

-- the numbers before the last are below it
below_last : (k m : ℕ) (ns : List ℕ) → IsRising (ns ++ m ∷ []) → Within k ns → k < m
below_last k m [] r i = absurd i
below_last k m (x ∷ ns) r i = grind (arith, r.0 m (within_last m ns), below_last k m ns r.1)

rising_front : (m : ℕ) (ns : List ℕ) → IsRising (ns ++ m ∷ []) → IsRising ns
rising_front m [] r = tt
rising_front m (x ∷ ns) r = ((λ k i. r.0 k (within_left k m ns i)), rising_front m ns r.1)

pub ordered_appended : (m : ℕ) (ns : List ℕ) → IsOrdered m ns → ((k : ℕ) → Within k ns → k < m)
    → IsOrdered m (ns ++ m ∷ [])
ordered_appended m ns numbers below = search (arith, within_either, rising_push)

-- a list whose last number is another, not below it
last_replaced : (l m : ℕ) (ns : List ℕ) → IsOrdered m (ns ++ l ∷ []) → IsOrdered m (ns ++ m ∷ [])
last_replaced l m ns o = ordered_appended m ns (search (arith, rising_front, within_left, o.below, o.rising))
    (λ k i. omega (arith, o.below l (within_last l ns), below_last k l ns o.rising i))

-- a list of numbers is what is before its last one, and that one; where another stands in its place, only that differs
split_last : (items : List ℕ) → 0 < length items
    → items ≡ take (length items - 1) items ++ get_or items (length items - 1) 0 ∷ []
split_last items some = search (arith, take-length, take_more)

split_set : (m : ℕ) (items : List ℕ) → 0 < length items
    → set items (length items - 1) m ≡ take (length items - 1) items ++ m ∷ []
split_set m items some = search (arith, length-set, take-length, take_more_set items (length items - 1) m)

-- another number stands in the place of the last one
pub record IsReplaced (l m : ℕ) (old new : List ℕ) : Type 0 where
  pub front : List ℕ
  pub was : old ≡ front ++ l ∷ []
  pub is : new ≡ front ++ m ∷ []

pub replaced : {l m start end len : ℕ} (items : List ℕ) → (len ≡ length items) × (end ≡ len) → start ≤ length items
    → (start ≡ end → ⊥) → l ≡ get_or items (end - 1) l
    → IsReplaced l m (drop start items) (drop start (set items (end - 1) m))
replaced {l = l} {m = m} {start = start} {end = end} items sizes in_order unequal read =
    let at : end - 1 ≡ length items - 1 = grind arith in
    let some : start < length items = grind arith in
    let within : start ≤ length (take (length items - 1) items) = omega (arith, length-take (length items - 1) items) in
    let last : get_or items (length items - 1) 0 ≡ l = search (arith, get_or_default) in
    record {
      front = drop start (take (length items - 1) items);
      was = ap (drop start) (split_last items (omega arith)) ∙ search (arith, drop-append-le);
      is = rw (at, split_set m items (omega arith)) (drop-append-le start _ _ within);
    }

module _ {l m : ℕ} {old new : List ℕ} (r : IsReplaced l m old new) where
  pub ordered_replaced : IsOrdered m old → IsOrdered m new
  ordered_replaced o = search (arith, last_replaced, r.is, r.was)

  pub within_replaced : Within m new
  within_replaced = search (arith, within_last)

  pub keeps_replaced : (waits : List (Option Wait)) → is_pending (get_or waits l None) ≡ false
      → KeepsPending waits old new
  keeps_replaced waits over = search (arith, within_left, within_either)

  -- where that one is of a pending wait, and the other isn't, all are below the other
  pub below_pending : (waits : List (Option Wait)) → is_pending (get_or waits l None) ≡ true
      → is_pending (get_or waits m None) ≡ false → IsOrdered m old → (k : ℕ) → Within k old → k < m
  below_pending waits pending fresh o k i = search (arith, within_last, within_either, below_last, r.was)

-- from the end of a part backwards: what passes, of the numbers from a place on, stands before the rest
pub record IsSifted (p : ℕ → Bool) (xs : List ℕ) (end at to : ℕ) (ys : List ℕ) : Type 0 where
  pub length_is : length ys ≡ length xs
  pub same : (i : ℕ) → i < at → get_or ys i 0 ≡ get_or xs i 0
  pub rest : drop to ys ≡ filter p (take (end - at) (drop at xs)) ++ drop end xs

module _ (p : ℕ → Bool) (xs : List ℕ) (end : ℕ) where
  pub sift_left : (j to : ℕ) (ys : List ℕ) → j < end → end ≤ length xs → p (get_or ys j 0) ≡ false
      → IsSifted p xs end (j + 1) to ys → IsSifted p xs end j to ys
  sift_left j to ys lt le fails s = record {
    length_is = s.length_is;
    same = search arith;
    rest = search
        (arith, drop_more, s.same j);
  }

  pub sift_kept : (j to : ℕ) (ys : List ℕ) → j < end → end ≤ length xs → j < to → to ≤ end → p (get_or ys j 0) ≡ true
      → IsSifted p xs end (j + 1) to ys → IsSifted p xs end j (to - 1) (set ys (to - 1) (get_or ys j 0))
  sift_kept j to ys lt le below within passes s = record {
    length_is = search (arith, length-set);
    same = search (arith, get_or-set_other);
    rest = search (arith, drop_more, drop-set, s.same j);
  }

pub thins_none : (waits : List (Option Wait)) (numbers : List ℕ) → Thins waits numbers numbers
thins_none waits numbers = search arith

-- of the first numbers, so many, those stay that pass
thins_more : (waits : List (Option Wait)) (x : ℕ) (ns front back : List ℕ) (b : Bool) → b ≡ has_pending waits x
    → Thins waits ns (front ++ back) → Thins waits (x ∷ ns) (cond b (x ∷ front) front ++ back)
thins_more waits x ns front back true is t = record {
  rising = λ r. ((λ k w. r.0 k (t.only k w)), t.rising r.1);
  only = λ k. grind (arith, t.only k);
  keeps = λ k. grind (arith, t.keeps k);
}
thins_more waits x ns front back false is t = record {
  rising = λ r. t.rising r.1;
  only = λ k w. inr (t.only k w);
  keeps = λ k. grind (arith, t.keeps k);
}

pub thins_front : (waits : List (Option Wait)) (count : ℕ) (numbers new : List ℕ)
    → new ≡ filter (has_pending waits) (take count numbers) ++ drop count numbers → Thins waits numbers new
thins_front waits zero ns new is = search arith
thins_front waits (suc n) [] new is = search arith
thins_front waits (suc n) (x ∷ ns) new is = rw is (thins_more waits x ns _ (drop n ns) _ refl (thins_front waits n ns _ refl))

-- a first number whose wait is not pending leaves
pub thins_first : (waits : List (Option Wait)) (ns : List ℕ) (i : ℕ) → i < length ns
    → is_pending (get_or waits (get_or ns i 0) None) ≡ false → Thins waits (drop i ns) (drop (i + 1) ns)
thins_first waits ns i lt over = search (arith, drop_more)

pub thins_both : (waits : List (Option Wait)) (a b c : List ℕ) → Thins waits a b → Thins waits b c → Thins waits a c
thins_both waits a b c x y = search arith

pub ordered_thinned : (m : ℕ) (waits : List (Option Wait)) (old new : List ℕ) → Thins waits old new → IsOrdered m old
    → IsOrdered m new
ordered_thinned m waits old new t numbers = search arith

-- a list without its last number, of a wait that is not pending
pub thins_last : (ws : List (Option Wait)) (old new : List ℕ) (n : ℕ) → old ≡ new ++ n ∷ []
    → is_pending (get_or ws n None) ≡ false → Thins ws old new
thins_last ws old new n is over = search (arith, within_left, within_either, rising_front)

-- a list that ends with a number, without it
pub last_left : (n start : ℕ) (items new : List ℕ) → new ≡ take (length items - 1) items
    → ends_with n (drop start items) ≡ true → (start ≤ length new) × (drop start items ≡ drop start new ++ n ∷ [])
last_left n start items new is ends =
    let long = length-drop start items in
    let some : 0 < length (drop start items) = grind arith in
    let last : get_or (drop start items) (length (drop start items) - 1) 0 ≡ n = grind arith in (
      omega (arith, ap (length {A = ℕ}) is, length-take (length items - 1) items),
      split_last (drop start items) some ∙
          search (arith, drop-take start (length (drop start items) - 1) items),
    )
