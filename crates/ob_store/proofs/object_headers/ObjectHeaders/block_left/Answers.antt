use Rattle.ob_store.proofs.Cited.{refl, get_or, None, none_of, arith}
use Rattle.ob_store.proofs.HeaderLaws.{seen_block_left, seen_absent, rest_same}
use Rattle.ob_store.proofs.ClosingLaws.{gone_was_there}
use Rattle.ob_store.proofs.NotedLaws.{noted_left}
use Rattle.ob_store.proofs.object_headers.ObjectHeaders.block_left.Goals as goal

pub returns-clause-objects : goal.returns-clause-objects
returns-clause-objects c = rw (← c.self.view_is, c.block_left-gone.ensures.value) (seen_block_left _ _ _ c.get_mut.ensures.value)

pub returns-clause-rest : goal.returns-clause-rest
returns-clause-rest c = rw (← c.self.view_is) (rest_same _ _ _ c.get_mut.ensures.value _ _ _ _ c.block_left-gone.ensures.value (λ l. refl) refl)

pub returns-then-not-is_occupied-clause-objects : goal.returns-then-not-is_occupied-clause-objects
returns-then-not-is_occupied-clause-objects c =
    rw (← c.self.view_is) (seen_absent _ c.args.id (none_of (get_or c.self.inside.arena.bodies c.args.id.slot None) (search arith)))

pub invariant_of-self : goal.invariant_of-self
invariant_of-self c =
    rw (c.left.ensures, c.owner_of.ensures, c.due_left.ensures, c.due_of.ensures, c.close.ensures, c.is_some.ensures)
    (noted_left _ _ _ _ _ _ _ c.self.invariant _ _ _ c.get_mut.ensures.value _ _ c.block_left-gone.ensures.gone
    (λ i. (c.block_left-gone.ensures.value i).body))

pub close-requires : goal.close-requires
close-requires c = search (arith, gone_was_there, c.self.invariant.opened, c.get_mut.ensures.value, c.block_left-gone.ensures.gone, c.is_some.ensures)
