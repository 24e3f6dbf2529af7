use Rattle.ob_waits.proofs.Cited.{◌≡◌, ◌+◌, ◌≤◌, None, List, Option, false, arith, length, subst, sym, nat_tests, Wait, AreTimely, IsTracked, WaitList, is_full, number_of}
use Rattle.ob_waits.proofs.AddedLaws.{tracked_answered}
use Rattle.ob_waits.proofs.DeadlineLaws.{timely_answered}
use Rattle.ob_waits.proofs.waits.Waits.add_answered.Goals as goal

pub invariant_of-self-2 : goal.invariant_of-self-2
invariant_of-self-2 c =
    let s = c.self.inside in
    let a = c.args in
    let len : length s.live ≡ c.given-number.result + 1 = c.given-number.ensures in
    let alone : number_of a.thread s.live ≡ None = subst (λ (l : WaitList). number_of a.thread l.waits ≡ None)
    (sym c.self.view_is) c.requires.alone in
    let full : is_full (record { limit = s.limit; waits = s.live; clock = s.clock }) ≡ false = subst
    (λ (l : WaitList). is_full l ≡ false) (sym c.self.view_is) c.requires.below_limit in
    let below : length s.live ≤ s.limit = grind (arith, nat_tests, full) in
    subst (λ (ws : List (Option Wait)). IsTracked s.limit ws s.pending_index × AreTimely s.clock ws s.deadlines)
    (sym c.in_ok-push_answered.ensures.ok) (
      tracked_answered s.limit s.live s.pending_index a.thread a.code a.deadline
          (omega (arith, len)) below c.requires.coded alone c.self.invariant.0,
      timely_answered s.clock s.live a.thread a.code a.deadline s.deadlines alone c.self.invariant.1,
    )
