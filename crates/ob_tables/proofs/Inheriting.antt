-- Laws of the table that a child inherits.
use Rattle.std.proofs.lemmas.Grind.{common_steps}
use Rattle.std.proofs.Common.{rules, drop, set, ◌≡◌, ℕ, zero, suc, ◌+◌, ◌<◌, ◌≤◌, List, [], ◌∷◌, ◌++◌, length, length-take-le, map, take, Option, Some, None, refl, ap, ◌∙◌, sym, arith, get_or, true, false}
use Rattle.std.specs.List.{take-map}
use Rattle.std.specs.Prelude.{is_some}
use Rattle.std.proofs.lemmas.List.{map-append, length-map, length-append, take_more, take_all, drop_all}
use Rattle.ob_tables.specs.declared.entry.Entry.{Entry}
use Rattle.ob_tables.specs.Table.{at}
use Rattle.ob_tables.specs.Inheritance.{before, trimmed, inheritable, inherited}

before_some : (x : Option Entry) (t : List (Option Entry)) (e : Entry)
    → before x (t ++ Some e ∷ []) ≡ x ∷ (t ++ Some e ∷ [])
before_some a0 a1 a2 = grind (arith, common_steps)

-- a place without an entry at the end goes, and one with an entry stays
pub trimmed_none : (t : List (Option Entry)) → trimmed (t ++ None ∷ []) ≡ trimmed t
trimmed_none [] = refl
trimmed_none (x ∷ t) = ap (before x) (trimmed_none t)

pub trimmed_some : (t : List (Option Entry)) (e : Entry) → trimmed (t ++ Some e ∷ []) ≡ t ++ Some e ∷ []
trimmed_some [] e = refl
trimmed_some (x ∷ t) e = search (arith, before_some, trimmed_some t e)

-- what is left is the beginning of the table
pub trimmed_take : (t : List (Option Entry)) → trimmed t ≡ take (length (trimmed t)) t
trimmed_take [] = refl
trimmed_take (x ∷ t) = search (arith, trimmed_take t)

pub length-trimmed : (t : List (Option Entry)) → length (trimmed t) ≤ length t
length-trimmed [] = omega arith
length-trimmed (x ∷ t) = search (arith, length-trimmed t)

before_first : (x : Option Entry) (t : List (Option Entry)) → get_or (before x t) 0 None ≡ x
before_first a0 a1 = search arith

-- no entry goes
pub at-trimmed : (t : List (Option Entry)) (k : ℕ) → get_or (trimmed t) k None ≡ get_or t k None
at-trimmed [] k = refl
at-trimmed (x ∷ t) k = grind (arith, before_first, at-trimmed t)

-- how much is inherited of one more place
pub inherited_none : (t : List (Option Entry)) (x : Option Entry) → inheritable x ≡ None
    → inherited (t ++ x ∷ []) ≡ inherited t
inherited_none t x is = search (arith, trimmed_none, map-append)

pub inherited_some : (t : List (Option Entry)) (x : Option Entry) (e : Entry) → inheritable x ≡ Some e
    → length (inherited (t ++ x ∷ [])) ≡ length t + 1
inherited_some t x e is = search (arith, trimmed_some, length-append, length-map, map-append)

pub length_inherited : (t : List (Option Entry)) → length (inherited t) ≤ length t
length_inherited t = search (arith, length-trimmed, length-map)

pub inherited_take : (t : List (Option Entry)) → map inheritable (take (length (inherited t)) t) ≡ inherited t
inherited_take t = sym (take-map inheritable (length (inherited t)) t) ∙ sym (trimmed_take (map inheritable t))

pub none_of : {A : Type 0} (x : Option A) → is_some x ≡ false → x ≡ None
none_of a0 a1 = search arith

some_of : {A : Type 0} (x : Option A) → is_some x ≡ true → (a : A) × (x ≡ Some a)
some_of a0 a1 = search arith

-- going back over the places, one that isn't inherited is left out, and one that is ends what is inherited
pub inherited_back : (t : List (Option Entry)) (j : ℕ) → j < length t → is_some (inheritable (get_or t j None)) ≡ false
    → inherited (take j t) ≡ inherited (take (j + 1) t)
inherited_back t j lt none = grind (arith, common_steps, inherited_none)

pub inherited_end : (t : List (Option Entry)) (j : ℕ) → j < length t → is_some (inheritable (get_or t j None)) ≡ true
    → length (inherited (take (j + 1) t)) ≡ j + 1
inherited_end t j lt some =
    let found = some_of (inheritable (get_or t j None)) some in
    ap (λ (s : List (Option Entry)). length (inherited s)) (take_more t j None lt)
    ∙ inherited_some (take j t) (get_or t j None) found.0 found.1
    ∙ ap (λ (n : ℕ). n + 1) (length-take-le j t (omega arith))

-- one more place of a copy has only what is inherited
copied_suc : (base : List (Option Entry)) (i : ℕ) → i < length base
    → set (map inheritable (take i base) ++ drop i base) i
    (inheritable (at (map inheritable (take i base) ++ drop i base) i)) ≡ map inheritable (take (suc i) base)
    ++ drop (suc i) base
copied_suc [] i lt = absurd (omega arith)
copied_suc (x ∷ base) zero lt = refl
copied_suc (x ∷ base) (suc i) lt = search (arith, copied_suc base i (omega arith))

pub copied_more : (base : List (Option Entry)) (i : ℕ) → i < length base
    → set (map inheritable (take i base) ++ drop i base) i
    (inheritable (at (map inheritable (take i base) ++ drop i base) i)) ≡ map inheritable (take (i + 1) base)
    ++ drop (i + 1) base
copied_more base i lt = search (arith, copied_suc)

pub copied_all : (t : List (Option Entry)) (i n : ℕ) → length (inherited t) ≡ n → n ≤ i
    → map inheritable (take i (take n t)) ++ drop i (take n t) ≡ inherited t
copied_all t i n is past = search (rules, inherited_take, drop_all, take_all)
