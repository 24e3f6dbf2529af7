use Rattle.ob_waits.proofs.Cited.{◌≡◌, ◌-◌, ◌+◌, ℕ, length, numbers_of}
use Rattle.ob_waits.proofs.index.Index.make_room.Given as goal

abbrev pub invariant-loop-self : goal.invariant-loop-self
invariant-loop-self l = (s : ℕ) → numbers_of l.self-inside.lists.items s
    ≡ numbers_of l.initial.self-inside.lists.items s

abbrev pub decreases-loop-self : goal.decreases-loop-self
decreases-loop-self l = l.at + 1 - length l.self-inside.lists.items
