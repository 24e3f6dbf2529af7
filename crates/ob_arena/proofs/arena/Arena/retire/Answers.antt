use Rattle.ob_arena.proofs.Cited.{arith}
use Rattle.ob_arena.proofs.Phasing.{free_slot, tied_retire, shown_retire}
use Rattle.ob_arena.proofs.arena.Arena.retire.Goals as goal

pub take-requires : goal.take-requires
take-requires g c = (free_slot _ _ _ c.self.invariant.tied c.args.slot (rw (← c.self.view_is) at c.requires)).free

pub invariant_of-self : goal.invariant_of-self
invariant_of-self g c =
    let free = free_slot _ _ _ c.self.invariant.tied c.args.slot (rw (← c.self.view_is) at c.requires) in
    search (arith, tied_retire, c.take.ensures)

pub returns : goal.returns
returns g c = search (arith, shown_retire)
