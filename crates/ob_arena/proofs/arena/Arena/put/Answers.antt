use Rattle.ob_arena.proofs.Cited.{◌∙◌, sym, ap, length, length-set}
use Rattle.ob_arena.proofs.Phasing.{free_slot, tied_put, shown_put}
use Rattle.ob_arena.proofs.arena.Arena.put.Goals as goal

pub take-requires : goal.take-requires
take-requires g c = (free_slot _ _ _ c.self.invariant.tied c.args.slot (rw (← c.self.view_is) at c.requires)).free

pub invariant_of-self : goal.invariant_of-self
invariant_of-self g c =
    let free = free_slot _ _ _ c.self.invariant.tied c.args.slot (rw (← c.self.view_is) at c.requires) in
    record {
      front = c.self.invariant.front ∙ sym c.fill.ensures.0;
      title_front = c.self.invariant.title_front;
      title_len = c.self.invariant.title_len ∙ sym (ap length c.fill.ensures.1 ∙ length-set _ c.args.slot _);
      title_alloc = c.self.invariant.title_alloc;
      tied = rw (c.fill.ensures.1, c.take.ensures) (tied_put _ _ _ c.self.invariant.tied c.args.slot c.args.body free);
    }

pub returns : goal.returns
returns g c =
    let free = free_slot _ _ _ c.self.invariant.tied c.args.slot (rw (← c.self.view_is) at c.requires) in
    rw (← c.self.view_is, c.fill.ensures.1) (shown_put _ _ _ c.self.invariant.tied c.args.slot c.args.body free)
