use Rattle.std.proofs.Common.{◌≡◌, ◌-◌, length}
use Rattle.least.specs.Dues.{due_at}
use Rattle.least.proofs.best.place_of_least.Given as goal

abbrev pub invariant-loop-least : goal.invariant-loop-least
invariant-loop-least l = due_at l.best.items l.at ≡ l.least

abbrev pub decreases-loop-least : goal.decreases-loop-least
decreases-loop-least l = length l.best.items - l.at
