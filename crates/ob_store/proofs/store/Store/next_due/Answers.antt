use Rattle.ob_store.proofs.Cited.{IfSome, ◌≡◌, ℕ, ◌∙◌, sym, refl, arith, Bool, true, false, cond, leb, List, Option, Some, None, map, nat_tests}
use Rattle.std.proofs.Math.ListN.{get_or-map}
use Rattle.least.specs.Dues.{IsLeast, NotAfter, due_at}
use Rattle.least.proofs.BestLemmas.{least_joined}
use Rattle.ob_store.specs.Dues.{reached}
use Rattle.ob_store.specs.Ticks.{last_moment}
use Rattle.ob_store.proofs.store.Store.next_due.Goals as goal

-- the least of all moments is the least of those that a tick can reach, or there is none of these
least_reached : (dues : List (Option ℕ)) (least : Option ℕ) → IsLeast dues least → IsLeast (map reached dues) (reached least)
least_reached dues least is = record {
  stands = stands least is.stands;
  first = λ place moment at. first least (due_at dues place) moment (is.first place) (sym (get_or-map reached dues place None) ∙ at);
}
  where
    stands : (x : Option ℕ) → IfSome x (λ m. (place : ℕ) × (due_at dues place ≡ Some m))
        → IfSome (reached x) (λ m. (place : ℕ) × (due_at (map reached dues) place ≡ Some m))
    stands None h = tt
    stands (Some m) h = by (leb m last_moment) refl
      where
        by : (b : Bool) → leb m last_moment ≡ b
            → IfSome (cond b (Some m) None) (λ n. (place : ℕ) × (due_at (map reached dues) place ≡ Some n))
        by true le = (h.0, rw (get_or-map reached dues h.0 None, h.1, le) refl)
        by false le = tt

    first : (l x : Option ℕ) (m : ℕ) → ((n : ℕ) → x ≡ Some n → NotAfter l n) → reached x ≡ Some m → NotAfter (reached l) m
    first l None m every at = cc
    first None (Some n) m every at = absurd (every n refl)
    first (Some l) (Some n) m every at = let less = every n refl in grind (arith, nat_tests)

pub returns-clause-least : goal.returns-clause-least
returns-clause-least g c =
    rw (← c.self.view_is, ← c.self-inside.view_is, c.reached.ensures, c.sooner.ensures)
    (least_reached _ _ (least_joined _ _ _ _ c.least_due-timers.ensures c.next_due-waits.ensures.least))
