use Rattle.ob_store.proofs.Cited.{header_due, refl, arith, Some}
use Rattle.ob_store.proofs.ClosingLaws.{bodied}
use Rattle.ob_store.proofs.HeaderLaws.{seen_put, rest_same, mapped_set}
use Rattle.ob_store.proofs.NotedLaws.{noted_moved}
use Rattle.ob_store.proofs.OwnerLaws.{owned_few}
use Rattle.ob_store.proofs.object_headers.ObjectHeaders.put.Goals as goal

pub returns-clause-objects : goal.returns-clause-objects
returns-clause-objects c = rw (← c.self.view_is, c.put-was.ensures.value) (seen_put _ _ _ c.get_mut.ensures.value _)

pub returns-clause-rest : goal.returns-clause-rest
returns-clause-rest c = search (arith, rest_same, ← c.self.view_is)

pub moved-requires : goal.moved-requires
moved-requires c = owned_few _ _ c.self.invariant.owned

pub invariant_of-self : goal.invariant_of-self
invariant_of-self c =
    let some = bodied c.self.inside.arena.bodies c.args.slot c.get_mut.result.now c.get_mut.ensures.value (rw (← c.self.view_is) at c.requires) in
    rw (c.moved.ensures, c.moved-2.ensures) (noted_moved _ _ _ _ _ _ _ c.self.invariant c.args.slot _ _
    c.get_mut.ensures.value _ _ _ c.put-was.ensures.owner (rw c.put-was.ensures.value c.owner-owner.ensures.owner)
    (mapped_set header_due _ _ _ (Some c.put-was.new.self) _ c.self.invariant.timed (rw c.put-was.ensures.value c.due-due.ensures))
    (rw (c.put-was.ensures.value, some) refl))
