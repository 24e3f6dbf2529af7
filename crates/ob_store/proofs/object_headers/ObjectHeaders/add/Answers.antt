use Rattle.ob_store.proofs.Cited.{◌∙◌, refl, arith}
use Rattle.ob_store.proofs.HeaderLaws.{places_added, added_handle, vacant_same}
use Rattle.ob_store.proofs.OwnerLaws.{owned_few, vacant_header}
use Rattle.ob_store.proofs.TimerLaws.{timed_vacant, timed_within}
use Rattle.ob_store.proofs.ClosingLaws.{vacant_open}
use Rattle.ob_store.proofs.NotedLaws.{noted_came}
use Rattle.ob_store.proofs.object_headers.ObjectHeaders.add.Goals as goal

pub put-requires : goal.put-requires
put-requires c = search (arith, vacant_same, rw (← c.self.view_is) at c.requires)

pub came-requires : goal.came-requires
came-requires c = owned_few _ _ c.self.invariant.owned

pub reach_label-requires-clause-room : goal.reach_label-requires-clause-room
reach_label-requires-clause-room c =
    omega (arith, (vacant_header _ _ _ c.args.id.slot c.self.view_is c.requires).0, c.self.invariant.room)

pub moved-requires-clause-within : goal.moved-requires-clause-within
moved-requires-clause-within c = timed_within _ _ _ c.self.invariant.timed (vacant_header _ _ _ c.args.id.slot c.self.view_is c.requires).0

pub moved-requires-clause-before : goal.moved-requires-clause-before
moved-requires-clause-before c = timed_vacant _ _ _ c.self.invariant.timed (vacant_header _ _ _ c.args.id.slot c.self.view_is c.requires).1

pub close-requires : goal.close-requires
close-requires c = λ ended. search (arith, vacant_open, vacant_header, c.self.invariant.opened, c.self.view_is)

pub returns-clause-value : goal.returns-clause-value
returns-clause-value c =
    rw (← c.self.view_is, c.put.ensures, c.relabel.ensures.value, c.reach_label.ensures.value) (places_added _ _ _ _ _ _ _ refl refl refl)

pub returns-clause-handles : goal.returns-clause-handles
returns-clause-handles c = rw c.put.ensures (added_handle _ _ _ (vacant_header _ _ _ c.args.id.slot c.self.view_is c.requires).0)

pub invariant_of-self : goal.invariant_of-self
invariant_of-self c =
    let vacant = vacant_header _ _ _ c.args.id.slot c.self.view_is c.requires in
    rw (c.put.ensures, c.came.ensures, c.owner_of.ensures, c.moved.ensures, c.due_of.ensures, c.close.ensures)
    (noted_came _ _ _ _ _ _ _ c.self.invariant _ _ c.is_none.result _ _ _ vacant.0 vacant.1 c.is_none.ensures (search arith) (search arith) (search arith)
    (c.relabel.ensures.room ∙ c.reach_label.ensures.room))
