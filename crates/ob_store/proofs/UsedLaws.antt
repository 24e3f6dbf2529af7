-- Slots up to the last that ever had an object, and all of them again.
use Rattle.ob_store.proofs.Cited.{AllByRecursion, SavedSlot, ◌≡◌, ℕ, zero, suc, ◌+◌, ◌-◌, ◌≤◌, ◌<◌, true, List, [], ◌∷◌, ◌++◌, length, Some, refl, ap, append_assoc, arith, le-leb, SlotFits, ends_used, filled, fresh_slot, used, with_fresh, replicate, ◌^◌, leb-true, replicate_more, cond_some, padded_length, FewFit, is_fresh, with_used}

fresh-is : (x : SavedSlot) → is_fresh x ≡ true → x ≡ fresh_slot
fresh-is x e = search arith

-- as many are left out as are filled in again
used-short : (xs : List SavedSlot) → length (used xs) ≤ length xs
used-short [] = omega arith
used-short (x ∷ xs) = search (arith, used-short xs)

one-filled : (x : SavedSlot) (xs ys : List SavedSlot) → with_fresh (length xs) ys ≡ xs
    → with_fresh (suc (length xs)) (with_used x ys) ≡ x ∷ xs
one-filled x xs ys e = grind (arith, fresh-is)

pub used_filled : (xs : List SavedSlot) → with_fresh (length xs) (used xs) ≡ xs
used_filled [] = refl
used_filled (x ∷ xs) = one-filled x xs (used xs) (used_filled xs)

used-ends : (xs : List SavedSlot) → ends_used (used xs) ≡ true
used-ends [] = refl
used-ends (x ∷ xs) = search (arith, used-ends xs)

-- slots of which the last had an object stay, and those behind them that never had one don't count
pub used_is : (xs : List SavedSlot) (n : ℕ) → ends_used xs ≡ true → used (xs ++ replicate n fresh_slot) ≡ xs
used_is [] zero e = refl
used_is [] (suc n) e = rw (used_is [] n refl) refl
used_is (x ∷ []) n e = grind (arith, used_is [] n refl)
used_is (x ∷ y ∷ ys) n e = ap (with_used x) (used_is (y ∷ ys) n e)

pub ends_more : (xs : List SavedSlot) (x : SavedSlot) → ends_used (xs ++ x ∷ []) ≡ ends_used (x ∷ [])
ends_more [] x = refl
ends_more (y ∷ []) x = refl
ends_more (y ∷ z ∷ zs) x = ends_more (z ∷ zs) x

pub fresh_long : (n : ℕ) (xs : List SavedSlot) → length xs ≤ n → length (with_fresh n xs) ≡ n
fresh_long n xs le = omega (arith, padded_length fresh_slot n xs)

-- one more of those that are filled in
pub one_filled : {A : Type 0} (xs : List A) (x : A) (k : ℕ) → length xs ≤ k
    → (xs ++ replicate (k - length xs) x) ++ x ∷ [] ≡ xs ++ replicate (k + 1 - length xs) x
one_filled xs x k le =
    let more : k + 1 - length xs ≡ k - length xs + 1 = omega arith in
    rw (append_assoc, replicate_more, more) refl

module _ (P : SavedSlot → Type 0) where
  all-used : (xs : List SavedSlot) → AllByRecursion P xs → AllByRecursion P (used xs)
  all-used [] all = tt
  all-used (x ∷ xs) all = search (arith, all-used xs all.1)

  all-fresh : P fresh_slot → (xs : List SavedSlot) (n : ℕ) → AllByRecursion P xs
      → AllByRecursion P (xs ++ replicate n fresh_slot)
  all-fresh fresh [] zero all = tt
  all-fresh fresh [] (suc n) all = (fresh, all-fresh fresh [] n tt)
  all-fresh fresh (x ∷ xs) n all = (all.0, all-fresh fresh xs n all.1)

-- so many slots that have a spelling and may be so
abbrev pub RowsFit : ℕ → ℕ → ℕ → List SavedSlot → Type 0
RowsFit n max_gen clock xs = (length xs ≡ n) × AllByRecursion (SlotFits max_gen clock) xs

module _ (n max_gen clock : ℕ) where
  pub used_there : n < 2 ^ 32 → (xs : List SavedSlot) → RowsFit n max_gen clock xs
      → (filled n (used xs) ≡ Some xs) × FewFit n (SlotFits max_gen clock) (used xs)
  used_there few xs fit = search (arith, used-short, used_filled, used-ends, all-used, le-leb)

  pub used_back : SlotFits max_gen clock fresh_slot → (ys xs : List SavedSlot)
      → FewFit n (SlotFits max_gen clock) ys → filled n ys ≡ Some xs → (used xs ≡ ys) × RowsFit n max_gen clock xs
  used_back fresh ys xs fits e = search (arith, used_is, fresh_long, all-fresh, cond_some, leb-true)
