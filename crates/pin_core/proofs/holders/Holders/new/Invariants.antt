use Rattle.std.proofs.Common.{◌≡◌, length}
use Rattle.pin_core.proofs.Groups.{AreEmpty}
use Rattle.pin_core.proofs.holders.Holders.new.Given as goal

abbrev pub invariant-loop : goal.invariant-loop
invariant-loop l = (length l.by_slot.items ≡ l.counter) × AreEmpty l.by_slot.items
