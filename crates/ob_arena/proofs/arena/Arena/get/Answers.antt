use Rattle.ob_arena.proofs.Phasing.{held_slot}
use Rattle.ob_arena.proofs.arena.Arena.get.Goals as goal

pub show-requires : goal.show-requires
show-requires g c =
    let held = held_slot _ _ _ c.self.invariant.tied c.args.slot (rw (← c.self.view_is) at c.requires) in
    (c.self.invariant.front, held.filled)
