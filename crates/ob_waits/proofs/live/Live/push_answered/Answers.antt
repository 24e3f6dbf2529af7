use Rattle.ob_waits.proofs.Cited.{◌≡◌, ◌++◌, ◌∷◌, [], List, Option, Some, ap, arith, length, subst, sym, length_push, Wait, AreToldBut}
use Rattle.ob_waits.proofs.AnswerLaws.{told_came}
use Rattle.ob_waits.proofs.live.Live.push_answered.Goals as goal

pub invariant_of-self : goal.invariant_of-self
invariant_of-self c = c.make_room.ensures.told c.self.inside.waits c.self.invariant

pub invariant_of-self-in_err-push : goal.invariant_of-self-in_err-push
invariant_of-self-in_err-push c =
    search (arith, c.in_err-push.ensures.err, c.make_room.ensures.told)

pub came-requires-clause-told : goal.came-requires-clause-told
came-requires-clause-told c =
    let ws = c.self.inside.waits in
    let more : c.push.new.self ≡ ws ++ Some c.args.wait ∷ [] = c.in_ok-push.ensures.ok in
    let number : length ws ≡ c.given-number.result = let g = c.given-number.ensures in let l = ap length more in omega
    (arith, g, l, length_push ws (Some c.args.wait)) in
    subst (λ i. AreToldBut (Some i) c.push.new.self c.make_room.new.self) number
    (subst (λ (l : List (Option Wait)). AreToldBut (Some (length ws)) l c.make_room.new.self) (sym more)
    (told_came ws c.args.wait c.make_room.new.self c.in_ok-make_room.ensures.room
    (c.make_room.ensures.told ws c.self.invariant)))
