use Rattle.ob_waits.proofs.Cited.{◌≡◌, ◌≤◌, ◌+◌, ◌++◌, [], ◌∷◌, None, Some, List, Option, false, subst, sym, arith, length, Wait, new_wait, WaitList, number_of, is_full, IsTracked, AreTimely, IsAfter}
use Rattle.ob_waits.proofs.AddedLaws.{tracked_added}
use Rattle.ob_waits.proofs.DeadlineLaws.{timely_came, timely_listed}
use Rattle.ob_waits.proofs.waits.Waits.admit.Goals as goal

pub invariant_of-self-2 : goal.invariant_of-self-2
invariant_of-self-2 c =
    let number = c.given-number.result + 1 in
    let len : length c.self.inside.live ≡ number = c.given-number.ensures in
    let alone : number_of c.args.thread c.self.inside.live ≡ None =
    subst (λ (l : WaitList). number_of c.args.thread l.waits ≡ None) (sym c.self.view_is) c.requires.alone in
    let full : is_full (record { limit = c.self.inside.limit; waits = c.self.inside.live; clock = c.self.inside.clock })
    ≡ false = subst (λ (l : WaitList). is_full l ≡ false) (sym c.self.view_is) c.requires.below_limit in
    let below : number ≤ c.self.inside.limit = grind arith in
    let waits : c.push.new.self ≡ c.self.inside.live
    ++ Some (new_wait c.args.thread c.args.mode c.args.ids.now c.args.deadline) ∷ [] =
    search arith in
    subst (λ (ws : List (Option Wait)). IsTracked c.self.inside.limit ws c.make_room.new.self
    × AreTimely c.self.inside.clock ws c.list_deadline.new.deadlines) (sym waits) (
      tracked_added c.self.inside.limit c.self.inside.live c.self.inside.pending_index c.make_room.new.self number
          c.args.thread c.args.mode c.args.ids.now c.args.deadline
          len (omega arith) below c.requires.waitable alone c.self.invariant.0 c.in_ok-make_room.ensures.right
          c.in_ok-make_room.ensures.place,
      timely_came c.self.inside.clock c.self.inside.live
          (new_wait c.args.thread c.args.mode c.args.ids.now c.args.deadline) c.self.inside.deadlines
          c.list_deadline.new.deadlines alone
          (subst (λ (l : WaitList). IsAfter l.clock c.args.deadline) (sym c.self.view_is) c.requires.ahead)
          c.list_deadline.ensures.others c.in_ok-list_deadline.ensures.listed c.self.invariant.1,
    )

pub invariant_of-self-in_err-list_deadline : goal.invariant_of-self-in_err-list_deadline
invariant_of-self-in_err-list_deadline c =
    let alone : number_of c.args.thread c.self.inside.live ≡ None =
    subst (λ (l : WaitList). number_of c.args.thread l.waits ≡ None) (sym c.self.view_is) c.requires.alone in (
      search arith,
      timely_listed c.self.inside.clock c.self.inside.live c.args.thread c.self.inside.deadlines
          c.list_deadline.new.deadlines alone c.list_deadline.ensures.others c.self.invariant.1,
    )

pub invariant_of-self-in_err-push : goal.invariant_of-self-in_err-push
invariant_of-self-in_err-push c =
    let alone : number_of c.args.thread c.self.inside.live ≡ None =
    subst (λ (l : WaitList). number_of c.args.thread l.waits ≡ None) (sym c.self.view_is) c.requires.alone in
    subst (λ (ws : List (Option Wait)). IsTracked c.self.inside.limit ws c.make_room.new.self
    × AreTimely c.self.inside.clock ws c.list_deadline.new.deadlines) (sym c.in_err-push.ensures.err) (
      search arith,
      timely_listed c.self.inside.clock c.self.inside.live c.args.thread c.self.inside.deadlines
          c.list_deadline.new.deadlines alone c.list_deadline.ensures.others c.self.invariant.1,
    )
