-- What a list has at a place, behind a write and behind a push, without conditions, so that `grind` splits by itself where it is given `at_place`.
use Rattle.std.proofs.Common.{◌≡◌, ◌≢◌, ℕ, ◌+◌, ◌<◌, List, [], ◌∷◌, ◌++◌, length, arith, get_or, set, cond, eqb, ltb}
use Rattle.std.proofs.lemmas.List.{length-set, length-append, get_or_past, get_or-set_same, get_or-set_other}
use Rattle.std.proofs.lemmas.Bool.Decides.{nat_tests}
use Rattle.std.proofs.lemmas.Grind.{common_steps}

pub get_or-push : {A : Type 0} (xs : List A) (y d : A) (k : ℕ)
    → get_or (xs ++ y ∷ []) k d ≡ cond (eqb k (length xs)) y (get_or xs k d)
get_or-push xs y d k = grind (arith, common_steps)

pub get_or-set : {A : Type 0} (xs : List A) (i : ℕ) (y d : A) (k : ℕ)
    → get_or (set xs i y) k d ≡ cond (eqb k i) (cond (ltb i (length xs)) y d) (get_or xs k d)
get_or-set xs i y d k = grind (arith, nat_tests, get_or-set_same, get_or-set_other, get_or_past, length-set)

pub length-push : {A : Type 0} (xs : List A) (y : A) → length (xs ++ y ∷ []) ≡ length xs + 1
length-push xs y = length-append xs (y ∷ [])

pub ruleset at_place = (get_or-push, get_or-set, length-push, length-set, get_or_past)

-- tried on two writes, and on writes behind a push
module _ {A : Type 0} (xs : List A) (i j k : ℕ) (x y d : A) where
  over : get_or (set (set xs i x) i y) k d ≡ get_or (set xs i y) k d
  over = grind (arith, nat_tests, at_place)

  apart : i ≢ j → get_or (set (set xs i x) j y) k d ≡ get_or (set (set xs j y) i x) k d
  apart other = grind (arith, nat_tests, at_place)

  beside : k < length xs → get_or (set (xs ++ x ∷ []) (length xs) y) k d ≡ get_or xs k d
  beside within = grind (arith, nat_tests, at_place)

  beyond : length xs < k → get_or (set (xs ++ x ∷ []) i y) k d ≡ d
  beyond past = grind (arith, nat_tests, at_place)
