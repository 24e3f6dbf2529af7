-- What stands in a list of which only the beginning is written.
use Rattle.std.proofs.Common.{◌≡◌, arith, inl, inr, ℕ, suc, ◌+◌, ◌-◌, ◌<◌, ◌≤◌, List, [], ◌∷◌, ◌++◌, length, get_or, set, replicate}
use Rattle.std.proofs.lemmas.List.{append-nil, append_assoc, get_or-replicate, get_or_past, length-append, length-replicate, length-set, replicate-append-replicate, set-append_left, set-get_or}
use Rattle.std.proofs.Math.ListN.{get_or-append}
use Rattle.std.proofs.Math.Seq.{get_or-append_right}
use Rattle.std.proofs.lemmas.Bool.{cases_lt}
use Rattle.least.specs.Padded.{padded}

module _ {A : Type 0} (none : A) (len : ℕ) (xs : List A) where
  -- a list that is so long is as it was
  pub padded_long : len ≤ length xs → padded none len xs ≡ xs
  padded_long le = (let short : len - length xs ≡ 0 = omega (arith, le) in rw short (append-nil xs))

  pub padded_length : length (padded none len xs) ≡ length xs + (len - length xs)
  padded_length = search (arith, length-append, length-replicate)

  -- a part of it is written
  pub padded_twice : (m : ℕ) → m ≤ len → padded none len (padded none m xs) ≡ padded none len xs
  padded_twice m le = search (arith, append_assoc, replicate-append-replicate, length-append, length-replicate)

  -- so is one place more
  pub padded_push : length xs < len → padded none len (xs ++ none ∷ []) ≡ padded none len xs
  padded_push lt =
      let rest : suc (len - length (xs ++ none ∷ [])) ≡ len - length xs = search (arith, length-append) in
      search (arith, append_assoc, rest)

  -- what stands at a place
  pub padded_at : (k : ℕ) → get_or (padded none len xs) k none ≡ get_or xs k none
  padded_at k = elim (cases_lt k (length xs)) [
    | inl lt ↦ get_or-append xs (replicate (len - length xs) none) none k lt
    | inr le ↦ search (arith, get_or-append_right, get_or_past, by (len - length xs) (k - length xs))
  ]
    where
      by : (n i : ℕ) → get_or (replicate n none) i none ≡ none
      by n i = elim (cases_lt i n) [
        | inl lt ↦ get_or-replicate n i none none lt
        | inr le ↦ get_or_past (replicate n none) i none (search (arith, length-replicate))
      ]

  -- a place that is written changes
  pub padded_set : (k : ℕ) (x : A) → k < length xs → padded none len (set xs k x) ≡ set (padded none len xs) k x
  padded_set k x lt = search (arith, length-set, set-append_left)

  -- nothing comes to a place that isn't written
  pub padded_past : (k : ℕ) → length xs ≤ k → set (padded none len xs) k none ≡ padded none len xs
  padded_past k le = search (arith, padded_at k, get_or_past, set-get_or (padded none len xs) k none)

pub ruleset padded_laws = (padded_long, padded_length, padded_push)
