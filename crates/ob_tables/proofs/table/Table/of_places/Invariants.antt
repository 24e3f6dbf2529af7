use Rattle.std.proofs.Common.{◌≡◌, ◌++◌, ◌-◌, map, take, replicate, true}
use Rattle.std.specs.Prelude.{is_some}
use Rattle.ob_tables.proofs.table.Table.of_places.Given as goal

abbrev pub invariant-loop-i : goal.invariant-loop-i
invariant-loop-i l = l.free ≡ map is_some (take l.i l.places.items) ++ replicate (l.len - l.i) true
