use Rattle.ob_waits.proofs.Cited.{ℕ, None, refl, ap, ◌∙◌, arith, get_or, length, sum_by, numbers_of, WaitList, blocks_in, blocks_among}
use Rattle.ob_waits.proofs.BlockLaws.{sum_numbers, length-ordered, blocks_named}
use Rattle.ob_waits.proofs.waits.Waits.blocks_of.Goals as goal

pub blocks_of-requires : goal.blocks_of-requires
blocks_of-requires c =
    let numbers = c.self.invariant.0.right.index_rises.each c.args.id.slot in
    let few = c.self.invariant.0.at_most in
    let fits = c.self.invariant.0.limit_fits in
    let same = ap (length {A = ℕ}) c.numbers.ensures in
    search (arith, length-ordered)

pub returns : goal.returns
returns c =
    let lists = c.self.invariant.0.right in
    c.blocks_of.ensures
    ∙ ap (sum_by (λ (n : ℕ). blocks_in c.args.id (get_or c.self.inside.live n None))) c.numbers.ensures
    ∙ sum_numbers (blocks_in c.args.id) refl (numbers_of c.self.inside.pending_index.index c.args.id.slot) c.self.inside.live
    (lists.index_rises.each c.args.id.slot).rising
    (search (arith, blocks_named))
    ∙ ap (λ (l : WaitList). blocks_among c.args.id l.waits) c.self.view_is
