use Rattle.ob_store.proofs.PlacedLaws.{seen_handles, seen_blocks, seen_within}
use Rattle.ob_store.proofs.store.Store.object.Goals as goal

pub returns-clause-handles : goal.returns-clause-handles
returns-clause-handles g c =
    rw (← c.self.view_is) (seen_handles _ c.self.invariant.sound c.kept.ensures _ _ c.look.ensures.object c.look.ensures.handles)

pub returns-clause-blocks : goal.returns-clause-blocks
returns-clause-blocks g c =
    rw (← c.self.view_is) (seen_blocks _ c.self.invariant.sound c.kept.ensures _ _ c.look.ensures.object c.look.ensures.blocks)

pub returns-clause-within : goal.returns-clause-within
returns-clause-within g c = rw (← c.self.view_is) (seen_within _ c.self.invariant.sound c.kept.ensures _ _ c.look.ensures.object)
