-- Texts that are compared in parts, of which two may overlap.
use Rattle.std.proofs.Common.{◌≡◌, ℕ, ◌+◌, ◌-◌, ◌≤◌, ◌&&◌, Bool, true, false, List, drop, length, refl, ap, sym, ◌∙◌, arith}
use Rattle.std.specs.Str.{bytes_eq}
use Rattle.std.proofs.lemmas.List.{drop-drop, drop_all}
use Rattle.std.proofs.lemmas.Slice.Eq.{bytes_eq-Decides}

-- what is left of two texts that are the same is
left_same : (k : ℕ) (x y : List ℕ) → bytes_eq x y ≡ true → bytes_eq (drop k x) (drop k y) ≡ true
left_same k x y is = search (arith, bytes_eq-Decides)

-- where the parts before a place are the same, a part from that place or before it up to the end decides
pub last_decides : (x y : List ℕ) (m n k : ℕ) (l : Bool) → length x ≡ length y → n ≤ m → n + k ≡ length x
    → bytes_eq x y ≡ bytes_eq (drop m x) (drop m y)
    → bytes_eq (drop n x) (drop n y) ≡ (l && bytes_eq (drop (n + k) x) (drop (n + k) y)) → l ≡ bytes_eq x y
last_decides x y m n k l same low all whole last = by l last
  where
    ends : bytes_eq (drop (n + k) x) (drop (n + k) y) ≡ true
    ends = search (arith, drop_all)

    other : (b : Bool) → bytes_eq x y ≡ b → bytes_eq (drop n x) (drop n y) ≡ false → false ≡ b
    other true is fails = search (arith, bytes_eq-Decides)
    other false is fails = refl

    by : (l : Bool) → bytes_eq (drop n x) (drop n y) ≡ (l && bytes_eq (drop (n + k) x) (drop (n + k) y))
        → l ≡ bytes_eq x y
    by true is = sym (whole ∙ ap (λ (i : ℕ). bytes_eq (drop i x) (drop i y)) (omega arith) ∙ rest)
      where
        rest : bytes_eq (drop (n + (m - n)) x) (drop (n + (m - n)) y) ≡ true
        rest = rw (← drop-drop (m - n) n x, ← drop-drop (m - n) n y)
            (left_same (m - n) (drop n x) (drop n y) (is ∙ ends))
    by false is = other (bytes_eq x y) refl is
