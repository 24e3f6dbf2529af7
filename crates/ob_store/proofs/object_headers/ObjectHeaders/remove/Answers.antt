use Rattle.std.proofs.Common.{arith}
use Rattle.ob_store.proofs.HeaderLaws.{header_of, places_removed, vacant_same, mapped_set}
use Rattle.ob_store.proofs.OwnerLaws.{object_within, owned_removed}
use Rattle.ob_store.proofs.TimerLaws.{timed_removed}
use Rattle.ob_store.proofs.ClosingLaws.{ended_here}
use Rattle.ob_store.proofs.NotedLaws.{labelled_out, room_set}
use Rattle.ob_store.proofs.object_headers.ObjectHeaders.remove.Goals as goal

pub take-requires : goal.take-requires
take-requires c = header_of _ _ _ c.args.slot c.self.view_is c.requires.object

pub returns-clause-vacant : goal.returns-clause-vacant
returns-clause-vacant c = search (arith, vacant_same, c.take.ensures.vacant)

pub returns-clause-value : goal.returns-clause-value
returns-clause-value c = rw (← c.self.view_is, c.take.ensures.after) (places_removed _ _ _)

pub invariant_of-self : goal.invariant_of-self
invariant_of-self c =
    let ended = rw (← c.self.view_is) at c.requires.ended in
    let there = rw (← c.self.view_is) at c.requires.object in
    rw (c.take.ensures.after, c.take-2.ensures)
    (search (arith, labelled_out, room_set, owned_removed, object_within, mapped_set, timed_removed, ended, there, c.self.invariant))

pub take-requires-2 : goal.take-requires-2
take-requires-2 c =
    ended_here _ _ _ c.self.invariant.opened _ (rw (← c.self.view_is) at c.requires.object) (rw (← c.self.view_is) at c.requires.ended)
