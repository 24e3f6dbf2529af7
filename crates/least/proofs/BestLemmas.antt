-- What the tree of least moments says of all places, and how it changes.
use Rattle.std.proofs.lemmas.Bool.Decides.{nat_tests}
use Rattle.std.proofs.Common.{◌≡◌, ◌≢◌, ◌∙◌, sym, ap, refl, subst, ℕ, zero, suc, ◌+◌, ◌*◌, ◌-◌, ◌/◌, ◌<◌, ◌≤◌, List, ◌++◌, length, arith, set, Option, Some, None, inl, inr, false}
use Rattle.std.specs.Prelude.{◌⊎◌, IfSome, IsSome}
use Rattle.std.proofs.lemmas.Bool.{cases_eq, cases_lt}
use Rattle.std.proofs.lemmas.List.{get_or_past, get_or-set_same, get_or-set_other, get_or_append_left, get_or-append-add}
use Rattle.least.specs.Dues.{due_at, is_by, since, NotAfter, IsLeast}
use Rattle.least.specs.Best.{sooner, best_below, IsBest, IsBestBut, IsWhole}
use Rattle.least.specs.Padded.{padded}
use Rattle.least.proofs.PaddedLemmas.{padded_at, padded_length}

-- the moment, if there is one, is that of some place
abbrev IsOfSomePlace : List (Option ℕ) → Option ℕ → Type 0
IsOfSomePlace dues x = IfSome x (λ moment. (place : ℕ) × (due_at dues place ≡ Some moment))

sooner_first : (x y : Option ℕ) (m : ℕ) → NotAfter x m → NotAfter (sooner x y) m
sooner_first x y m h = grind (arith, nat_tests)

sooner_second : (x y : Option ℕ) (m : ℕ) → NotAfter y m → NotAfter (sooner x y) m
sooner_second x y m h = grind (arith, nat_tests)

sooner_either : (x y : Option ℕ) → (sooner x y ≡ x) ⊎ (sooner x y ≡ y)
sooner_either x y = search arith

at_root : (dues best : List (Option ℕ)) (m fuel k : ℕ) → k ≤ fuel → IsBest dues best → NotAfter (due_at best k) m
    → NotAfter (due_at best 0) m
at_root dues best m zero k le all h = search arith
at_root dues best m (suc fuel) k le all h = elim (cases_lt 0 k) [
  | inl lt ↦ at_root dues best m fuel ((k - 1) / 2) (omega arith) all (search arith)
  | inr none ↦ search arith
]

-- and comes from a place
from_place : (dues best : List (Option ℕ)) (m fuel n : ℕ) → length best ≤ n + fuel → IsBest dues best
    → due_at best n ≡ Some m → (place : ℕ) × (due_at dues place ≡ Some m)
from_place dues best m zero n le all is = search (arith, get_or_past)
from_place dues best m (suc fuel) n le all is = elim (sooner_either (due_at dues n)
    (sooner (due_at best (2 * n + 1)) (due_at best (2 * n + 2)))) [
      | inl own ↦ (n, sym own ∙ sym (all n) ∙ is)
      | inr below ↦ elim (sooner_either (due_at best (2 * n + 1)) (due_at best (2 * n + 2))) [
        | inl left ↦ search (arith, from_place dues best m fuel (2 * n + 1))
        | inr right ↦ search (arith, from_place dues best m fuel (2 * n + 2))
      ]
    ]

pub least_at_root : (dues best : List (Option ℕ)) → IsBest dues best → IsLeast dues (due_at best 0)
least_at_root dues best all = record {
  stands = by (due_at best 0) refl;
  first = λ place moment is. at_root dues best moment place place (omega arith) all
      (subst (λ x. NotAfter x moment) (sym (all place))
      (sooner_first (due_at dues place) _ moment (subst (λ x. NotAfter x moment) (sym is) (omega arith))));
}
  where
    by : (x : Option ℕ) → due_at best 0 ≡ x → IfSome x (λ moment. (place : ℕ) × (due_at dues place ≡ Some moment))
    by None e = tt
    by (Some m) e = from_place dues best m (length best) 0 (omega arith) all e

-- where the least comes later, each does
pub none_by : (now : ℕ) (dues : List (Option ℕ)) (least : Option ℕ) → IsLeast dues least → is_by now least ≡ false
    → (k : ℕ) → is_by now (due_at dues k) ≡ false
none_by now dues None is late k = search (arith, is.first k)
none_by now dues (Some l) is late k = search (arith, is.first k)

-- one place is written, as it has to be
pub written : (dues best : List (Option ℕ)) (place : ℕ) (due : Option ℕ) → place < length best
    → due ≡ best_below dues best place → IsBestBut place dues best
    → (n : ℕ) → (0 < place → n ≢ (place - 1) / 2) →
    due_at (set best place due) n ≡ best_below dues (set best place due) n
written dues best place due lt is but n apart = elim (cases_eq n place) [
  | inl e ↦ subst (λ k. due_at (set best place due) k ≡ best_below dues (set best place due) k) (sym e)
      (get_or-set_same best place due None lt ∙ is ∙ sym (below place (omega arith) (omega arith)))
  | inr ne ↦ get_or-set_other best place n due None ne ∙ but n ne ∙ sym (below n
      (λ e. apart (omega arith) (omega arith)) (λ e. apart (omega arith) (omega arith)))
]
  where
    below : (k : ℕ) → 2 * k + 1 ≢ place → 2 * k + 2 ≢ place
        → best_below dues (set best place due) k ≡ best_below dues best k
    below k left right = search (arith, get_or-set_other)

pub unwritten : (dues best : List (Option ℕ)) (place : ℕ) → due_at best place ≡ best_below dues best place
    → IsBestBut place dues best → IsBest dues best
unwritten dues best place is but n = search arith

-- a place that has a moment is there
pub is_there : (xs : List (Option ℕ)) (k : ℕ) → IsSome (due_at xs k) → k < length xs
is_there xs k some = search (arith, get_or_past)

-- nor have the places that aren't written one
pub padded_best : (len : ℕ) (dues best : List (Option ℕ)) → IsBest dues best → IsBest (padded None len dues) best
padded_best len dues best all k = search (arith, padded_at None len dues k, all k)

-- both are written up to a place
pub whole_padded : (len : ℕ) (dues best : List (Option ℕ)) → len ≤ 4294967296 → IsWhole dues best
    → IsWhole (padded None len dues) (padded None len best)
whole_padded len dues best few whole = search (arith, padded_length, padded_at)

-- the least of two lists
pub least_joined : (xs ys : List (Option ℕ)) (x y : Option ℕ) → IsLeast xs x → IsLeast ys y
    → IsLeast (xs ++ ys) (sooner x y)
least_joined xs ys x y a b = record {
  stands = elim (sooner_either x y) [
    | inl e ↦ subst (λ z. IsOfSomePlace (xs ++ ys) z) (sym e) (left x a.stands)
    | inr e ↦ subst (λ z. IsOfSomePlace (xs ++ ys) z) (sym e) (right y b.stands)
  ];
  first = λ place moment is. elim (cases_lt place (length xs)) [
    | inl lt ↦ sooner_first x y moment (a.first place moment (sym (get_or_append_left xs ys None place lt) ∙ is))
    | inr past ↦
        let at : length xs + (place - length xs) ≡ place = omega arith in
        sooner_second x y moment (b.first (place - length xs) moment
        (sym (get_or-append-add xs ys (place - length xs) None) ∙ ap (λ i. due_at (xs ++ ys) i) at ∙ is))
  ];
}
  where
    left : (z : Option ℕ) → IsOfSomePlace xs z → IsOfSomePlace (xs ++ ys) z
    left None h = tt
    left (Some m) h = (
      h.0,
      search (arith, is_there, get_or_append_left, h.1),
    )

    right : (z : Option ℕ) → IsOfSomePlace ys z → IsOfSomePlace (xs ++ ys) z
    right None h = tt
    right (Some m) h = (length xs + h.0, get_or-append-add xs ys h.0 None ∙ h.1)

-- the least moment from one on of the first places, so many
pub record IsLeastAmong (from count : ℕ) (dues : List (Option ℕ)) (least : Option ℕ) : Type 0 where
  pub stands : IsOfSomePlace dues least
  pub from_on : IfSome least (λ moment. from ≤ moment)
  pub first : (place moment : ℕ) → place < count → due_at dues place ≡ Some moment → from ≤ moment
      → NotAfter least moment

pub among_more : (from count : ℕ) (dues : List (Option ℕ)) (least : Option ℕ) → IsLeastAmong from count dues least
    → IsLeastAmong from (count + 1) dues (sooner least (since from (due_at dues count)))
among_more from count dues least among = search (arith, sooner_first)
