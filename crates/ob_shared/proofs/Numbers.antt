-- Lanes whose numbers rise.
use Rattle.std.proofs.Common.{◌≡◌, ℕ, ◌+◌, ◌<◌, ◌≤◌, false, List, [], ◌∷◌, ◌++◌, length, take, get_or, refl, arith}
use Rattle.std.proofs.lemmas.Bool.Decides.{nat_tests}
use Rattle.std.specs.List.{list_any}
use Rattle.std.proofs.lemmas.List.{take_more}
use Rattle.std.proofs.lemmas.List.Folds.{list_any-append}
use Rattle.ob_shared.specs.Closing.{has_number, has_twice}
use Rattle.ob_shared.specs.Lanes.{LaneState}

apart_more : (xs : List LaneState) (x : LaneState) → has_twice xs ≡ false → list_any (has_number x.number) xs ≡ false
    → has_twice (xs ++ x ∷ []) ≡ false
apart_more [] x apart none = refl
apart_more (y ∷ xs) x apart none = grind (arith, nat_tests, list_any-append, apart_more xs x)

-- no number is there twice, and none from the least one on
pub record HaveRisen (lanes : List LaneState) (least : ℕ) : Type 0 where
  pub apart : has_twice lanes ≡ false
  pub below : (n : ℕ) → least ≤ n → list_any (has_number n) lanes ≡ false

-- one lane more
pub risen_more : (x : LaneState) (least : ℕ) (xs : List LaneState) (i next : ℕ) → i < length xs → x ≡ get_or xs i x
    → least ≤ x.number → next ≡ x.number + 1
    → HaveRisen (take i xs) least → HaveRisen (take (i + 1) xs) next
risen_more x least xs i next inside at above is old = rw (take_more xs i x inside, ← at) (record {
  apart = apart_more (take i xs) x old.apart (old.below x.number above);
  below = λ n past. grind (arith, nat_tests, list_any-append, old.below n (omega (arith, above, is, past)));
})
