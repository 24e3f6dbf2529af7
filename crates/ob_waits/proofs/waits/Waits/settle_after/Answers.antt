use Rattle.ob_waits.proofs.Cited.{ap, WaitList}
use Rattle.ob_waits.proofs.SettleLaws.{kept_after, room_settled, settled_after, value_seen}
use Rattle.ob_waits.proofs.waits.Waits.settle_after.Goals as goal

pub invariant_of-self : goal.invariant_of-self
invariant_of-self g c = kept_after _ _ _ _ c.pass_slot-looked.ensures.scene c.thin_slot.ensures c.self.invariant

pub returns-clause-value : goal.returns-clause-value
returns-clause-value g c = value_seen _ _ _ _ c.pass_slot-looked.ensures.scene
    (ap (λ (l : WaitList). l.waits) c.self.view_is)

pub returns-clause-settled : goal.returns-clause-settled
returns-clause-settled g c = settled_after (g.B.Bodies.objects c.args.bodies.now) _ c.self.inside.live _
    c.pass_slot-looked.ensures.scene

pub returns-clause-room : goal.returns-clause-room
returns-clause-room g c limit = room_settled _ _ _ _ c.pass_slot-looked.ensures.scene limit c.self.invariant.0.kept
    (ap (λ (l : WaitList). l.waits) c.self.view_is)
