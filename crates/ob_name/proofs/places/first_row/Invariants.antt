use Rattle.std.proofs.Common.{◌≡◌, ◌-◌, length}
use Rattle.ob_name.specs.Order.{row_on, rows_between}
use Rattle.ob_name.proofs.places.first_row.Given as goal

abbrev pub invariant-loop-place : goal.invariant-loop-place
invariant-loop-place l =
    rows_between (row_on l.ids.entries l.order.items) l.from (length l.order.items - l.from)
    ≡ rows_between (row_on l.ids.entries l.order.items) l.place (length l.order.items - l.place)
