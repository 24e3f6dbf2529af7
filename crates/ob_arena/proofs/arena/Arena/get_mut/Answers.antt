use Rattle.ob_arena.proofs.Cited.{◌∙◌, sym, length-set}
use Rattle.ob_arena.proofs.Phasing.{held_slot, tied_changed}
use Rattle.ob_arena.proofs.arena.Arena.get_mut.Goals as goal

pub lend-requires : goal.lend-requires
lend-requires g c =
    let held = held_slot _ _ _ c.self.invariant.tied c.args.slot (rw (← c.self.view_is) at c.requires) in
    (c.self.invariant.front, held.filled)

pub invariant_of-self-lent : goal.invariant_of-self-lent
invariant_of-self-lent g c = λ body.
    let held = held_slot _ _ _ c.self.invariant.tied c.args.slot (rw (← c.self.view_is) at c.requires) in
    record {
      front = c.self.invariant.front;
      title_front = c.self.invariant.title_front;
      title_len = c.self.invariant.title_len ∙ sym (length-set _ c.args.slot _);
      title_alloc = c.self.invariant.title_alloc;
      tied = tied_changed _ _ _ c.self.invariant.tied c.args.slot body held;
    }
