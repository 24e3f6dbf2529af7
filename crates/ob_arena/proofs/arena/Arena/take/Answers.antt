use Rattle.ob_arena.proofs.Cited.{◌∙◌, sym, ap, length, length-set, arith}
use Rattle.ob_arena.proofs.Phasing.{held_slot, held_number, tied_take, shown_take, vacant_taken_from}
use Rattle.ob_arena.proofs.arena.Arena.take.Goals as goal

pub empty-body-requires : goal.empty-body-requires
empty-body-requires g c =
    let held = held_slot _ _ _ c.self.invariant.tied c.args.slot (rw (← c.self.view_is) at c.requires) in
    (c.self.invariant.front, held.filled)

pub give_back-requires : goal.give_back-requires
give_back-requires g c =
    let held = held_slot _ _ _ c.self.invariant.tied c.args.slot (rw (← c.self.view_is) at c.requires) in
    held_number _ _ _ c.self.invariant.tied c.args.slot held

pub invariant_of-self : goal.invariant_of-self
invariant_of-self g c =
    let held = held_slot _ _ _ c.self.invariant.tied c.args.slot (rw (← c.self.view_is) at c.requires) in
    let left = c.empty-body.ensures.slots in
    record {
      front = c.self.invariant.front ∙ sym left.0;
      title_front = c.self.invariant.title_front;
      title_len = c.self.invariant.title_len ∙ sym (ap length left.1 ∙ length-set _ c.args.slot _);
      title_alloc = c.self.invariant.title_alloc;
      tied = rw (left.1, c.give_back.ensures) (tied_take _ _ _ c.self.invariant.tied c.args.slot held);
    }

pub returns-clause-after : goal.returns-clause-after
returns-clause-after g c =
    let held = held_slot _ _ _ c.self.invariant.tied c.args.slot (rw (← c.self.view_is) at c.requires) in
    rw (← c.self.view_is, c.empty-body.ensures.slots.1) (shown_take _ _ _ c.self.invariant.tied c.args.slot held)

pub returns-clause-vacant : goal.returns-clause-vacant
returns-clause-vacant g c =
    let held = held_slot _ _ _ c.self.invariant.tied c.args.slot (rw (← c.self.view_is) at c.requires) in
    search (arith, vacant_taken_from, c.empty-body.ensures.slots.1)
