use Rattle.ob_waits.proofs.Cited.{◌<◌, ℕ, get_or, IfSome, ◌⊎◌, IsAtMost, numbers_of, IsSpent, Within, nowhere}
use Rattle.ob_waits.proofs.merge.next_number.Given as goal

abbrev pub invariant-loop-id : goal.invariant-loop-id
invariant-loop-id g l = record {
  above : IfSome l.least (λ n. l.last < n);
  least : (i k : ℕ) → i < l.id-index → Within k (numbers_of l.pending_index.index (get_or l.ids i nowhere).slot)
      → l.last < k
      → IsAtMost l.least k ⊎ IsSpent (g.B.Bodies.objects l.bodies).bodies l.live (get_or l.ids i nowhere).slot;
}
