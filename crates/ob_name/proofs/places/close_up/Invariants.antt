use Rattle.std.proofs.Common.{◌≡◌, ◌<◌, ◌≤◌, ℕ, length, None}
use Rattle.std.specs.Prelude.{vec_capacity}
use Rattle.std.specs.HashMap.{spare}
use Rattle.ob_name.specs.Order.{IsOrdered, row_on, rows_of}
use Rattle.ob_name.proofs.places.close_up.Given as goal

abbrev pub invariant-loop-from : goal.invariant-loop-from
invariant-loop-from l =
    (l.to ≤ l.from)
    × IsOrdered l.ids.entries l.order.items
    × (rows_of l.ids.entries l.order.items ≡ rows_of l.fn.ids.entries l.fn.order.items)
    × ((q : ℕ) → l.to ≤ q → q < l.from → row_on l.ids.entries l.order.items q ≡ None)
    × (length l.order.items ≡ length l.fn.order.items)
    × (vec_capacity l.order ≡ vec_capacity l.fn.order)
    × (spare l.ids ≡ spare l.fn.ids)
