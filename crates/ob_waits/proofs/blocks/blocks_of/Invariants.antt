use Rattle.ob_waits.proofs.Cited.{◌≡◌, ◌≤◌, ◌*◌, ℕ, None, take, get_or, sum_by, blocks_in}
use Rattle.ob_waits.proofs.blocks.blocks_of.Given as goal

abbrev pub invariant-loop-number : goal.invariant-loop-number
invariant-loop-number l = record {
  same : l.blocks ≡ sum_by (λ (n : ℕ). blocks_in l.id (get_or l.live n None)) (take l.number-index l.numbers);
  at_most : l.blocks ≤ 64 * l.number-index;
}
