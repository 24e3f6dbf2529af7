-- A list that is told place by place: the chain of its first places grows at the end, and its rest stays; or it begins
-- with what is told of each item of another.
use Rattle.std.proofs.Common.{◌≡◌, ◌+◌, ◌<◌, ◌≤◌, ◌∙◌, ℕ, suc, List, [], ◌∷◌, ◌++◌, refl, map, take, drop, length, get_or, add-one, arith}
use Rattle.std.specs.Prelude.{slice_set}
use Rattle.std.proofs.lemmas.List.{drop-set-lt, take_more_set}
use Rattle.std.proofs.lemmas.Grind.{drop_more_same}
use Rattle.obman_c.specs.Chains.{Chain}

module _ {S X : Type 0} (Next : S → X → S → Type 0) where
  chain_more : (s : S) (xs : List X) (m : S) (x : X) (t : S) → Chain Next s xs m → Next m x t
      → Chain Next s (xs ++ x ∷ []) t
  chain_more s [] m x t same step = (t, (rw same step, refl))
  chain_more s (y ∷ ys) m x t chain step = (chain.0, (chain.1.0, chain_more chain.0 ys m x t chain.1.1 step))

  -- the step is told at the place behind the last
  pub chain_set : (s m t : S) (x : X) (n : ℕ) (xs : List X) → n < length xs → Chain Next s (take n xs) m → Next m x t
      → Chain Next s (take (n + 1) (slice_set xs n x)) t
  chain_set s m t x n xs within chain step =
      rw (take_more_set xs n x within) (chain_more s (take n xs) m x t chain step)

pub rest_set : {X : Type 0} (xs ys : List X) (x : X) (n : ℕ) → drop n xs ≡ drop n ys
    → drop (n + 1) (slice_set xs n x) ≡ drop (n + 1) ys
rest_set xs ys x n same = drop-set-lt (n + 1) xs n x (omega arith) ∙ drop_more_same xs ys n same

-- the items one after another
module _ {X Y : Type 0} (f : X → Y) where
  put_one : (xs : List X) (ys : List Y) (i : ℕ) (d : X) → i < length xs → length xs ≤ length ys
      → slice_set (map f (take i xs) ++ drop i ys) i (f (get_or xs i d)) ≡ map f (take (suc i) xs) ++ drop (suc i) ys
  put_one [] ys i d lt le = absurd (omega arith)
  put_one (x ∷ xs) ys i d lt le = grind (arith, put_one xs)

  pub put_more : (xs : List X) (ys zs : List Y) (i : ℕ) (d : X) → i < length xs → length xs ≤ length ys
      → zs ≡ map f (take i xs) ++ drop i ys
      → slice_set zs i (f (get_or xs i d)) ≡ map f (take (i + 1) xs) ++ drop (i + 1) ys
  put_more xs ys zs i d lt le is = rw (is, add-one) (put_one xs ys i d lt le)
