-- Deadlines go on being ahead and listed while waits come, are answered and go, and the code finds those that are over.
use Rattle.ob_waits.proofs.Cited.{at_place, nat_tests, ◌≡◌, ℕ, ◌++◌, ◌∷◌, [], List, Option, Some, None, refl, arith, get_or, set, true, false, IfSome, is_some, map, get_or-map, Wait, Answered, AreListed, AreTimely, deadline_of, is_overdue, IsAfter, number_of}
use Rattle.least.specs.Dues.{is_by, IsLeast, NotAfter}
use Rattle.ob_body.specs.Timer.{is_due}
use Rattle.ob_waits.proofs.Keeping.{Fade}
use Rattle.ob_waits.proofs.TrackedLaws.{no_number}

-- some waits were answered
pub timely_faded : (clock : ℕ) (ws ws' : List (Option Wait)) (dues : List (Option ℕ)) → Fade ws ws'
    → AreTimely clock ws dues → AreTimely clock ws' dues
timely_faded clock ws ws' dues fade timely = search arith

-- one went
pub timely_removed : (clock : ℕ) (ws : List (Option Wait)) (n : ℕ) (dues : List (Option ℕ)) → AreTimely clock ws dues
    → AreTimely clock (set ws n None) dues
timely_removed clock ws n dues timely = grind (arith, at_place)

-- no waits
pub timely_none : AreTimely 0 (None ∷ []) []
timely_none = search arith

-- a wait comes, of a thread that had none, whose deadline is listed where it is pending
pub timely_came : (clock : ℕ) (ws : List (Option Wait)) (w : Wait) (dues dues' : List (Option ℕ))
    → number_of w.thread ws ≡ None → IsAfter clock (deadline_of (Some w))
    → ((u : ℕ) → (u ≡ w.thread → ⊥) → get_or dues' u None ≡ get_or dues u None)
    → ((e : ℕ) → deadline_of (Some w) ≡ Some e → get_or dues' w.thread None ≡ Some e)
    → AreTimely clock ws dues → AreTimely clock (ws ++ Some w ∷ []) dues'
timely_came clock ws w dues dues' alone ahead others here timely = record {
  moment = timely.moment;
  ahead = grind (arith, at_place);
  listed = record {
    each = λ n u e. grind (arith, nat_tests, at_place, no_number w.thread ws n, others u, here e, timely.listed.each n u e);
  };
}

-- some moment is listed at a thread that has no wait
pub timely_listed : (clock : ℕ) (ws : List (Option Wait)) (t : ℕ) (dues dues' : List (Option ℕ)) → number_of t ws ≡ None
    → ((u : ℕ) → (u ≡ t → ⊥) → get_or dues' u None ≡ get_or dues u None) → AreTimely clock ws dues
    → AreTimely clock ws dues'
timely_listed clock ws t dues dues' alone others timely = record {
  moment = timely.moment;
  ahead = timely.ahead;
  listed = record { each = λ n u e. grind (arith, no_number t ws n, others u, timely.listed.each n u e) };
}

pub timely_answered : (clock : ℕ) (ws : List (Option Wait)) (t code : ℕ) (d : Option ℕ) (dues : List (Option ℕ))
    → number_of t ws ≡ None
    → AreTimely clock ws dues → AreTimely clock (ws
    ++ Some (record { thread = t; deadline = d; state = Answered code }) ∷ []) dues
timely_answered clock ws t code d dues alone timely = grind (arith, at_place)

module _ (ws : List (Option Wait)) (dues : List (Option ℕ)) (listed : AreListed ws dues) where
  -- what is listed for a deadline that some wait has
  listed_at : (n d : ℕ) → deadline_of (get_or ws n None) ≡ Some d → (t : ℕ) × (get_or dues t None ≡ Some d)
  listed_at n d is = by (get_or ws n None) refl
    where
      by : (w : Option Wait) → get_or ws n None ≡ w → (t : ℕ) × (get_or dues t None ≡ Some d)
      by None at = search arith
      by (Some w) at = (w.thread, search arith)

  -- where none that is listed is due, no wait is overdue
  pub none_overdue : (now : ℕ) → ((t : ℕ) → is_by now (get_or dues t None) ≡ false) → (n : ℕ)
      → is_overdue now (get_or ws n None) ≡ false
  none_overdue now none n = by (deadline_of (get_or ws n None)) refl
    where
      by : (d : Option ℕ) → deadline_of (get_or ws n None) ≡ d → is_due now d ≡ false
      by None is = refl
      by (Some d) is = let at = listed_at n d is in grind (arith, none at.0)

  not_before_least : (least : Option ℕ) → IsLeast dues least → (n d : ℕ) → get_or (map deadline_of ws) n None ≡ Some d
      → NotAfter least d
  not_before_least least is n d at =
      let there = listed_at n d (rw (get_or-map deadline_of ws n None) at at) in is.first there.0 d there.1

  pub least_none : IsLeast dues None → IsLeast (map deadline_of ws) None
  least_none is = search (arith, not_before_least)

  pub least_overdue : (n : Option ℕ) (due : ℕ) → IsLeast dues (Some due) → is_some n ≡ true
      → IfSome n (λ m. is_overdue due (get_or ws m None) ≡ true) → IsLeast (map deadline_of ws) (Some due)
  least_overdue None due is some over = absurd cc
  least_overdue (Some n) due is some over = record {
    stands = (n, grind (arith, get_or-map deadline_of ws n None, not_before_least (Some due) is n));
    first = search (arith, not_before_least);
  }
