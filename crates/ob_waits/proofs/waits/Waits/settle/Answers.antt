use Rattle.ob_waits.proofs.Cited.{ap, subst, sym, IsRising, WaitList}
use Rattle.ob_waits.proofs.SettleLaws.{kept_after, room_settled, settled_after, value_seen}
use Rattle.ob_waits.proofs.waits.Waits.settle.Goals as goal

pub pass-requires-clause-rising : goal.pass-requires-clause-rising
pass-requires-clause-rising g c = subst IsRising (sym c.order.ensures) c.self.invariant.0.right.order_rises.rising

pub invariant_of-self : goal.invariant_of-self
invariant_of-self g c = kept_after _ _ _ _ c.pass.ensures.scene c.thin.ensures c.self.invariant

pub returns-clause-value : goal.returns-clause-value
returns-clause-value g c = value_seen _ _ _ _ c.pass.ensures.scene (ap (λ (l : WaitList). l.waits) c.self.view_is)

pub returns-clause-settled : goal.returns-clause-settled
returns-clause-settled g c = settled_after (g.B.Bodies.objects c.args.bodies.now) _ c.self.inside.live _
    c.pass.ensures.scene

pub returns-clause-room : goal.returns-clause-room
returns-clause-room g c limit = room_settled _ _ _ _ c.pass.ensures.scene limit c.self.invariant.0.kept
    (ap (λ (l : WaitList). l.waits) c.self.view_is)
