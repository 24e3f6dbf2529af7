use Rattle.std.proofs.Common.{◌≡◌, ◌++◌, ◌-◌, length, map, take, drop, replicate, true}
use Rattle.std.specs.Prelude.{is_some}
use Rattle.ob_tables.specs.Inheritance.{inheritable}
use Rattle.ob_tables.proofs.table.Table.inheriting.Given as goal

abbrev pub invariant-loop-i : goal.invariant-loop-i
invariant-loop-i l = record {
  length_is : length l.copies.items ≡ l.len;
  so_far : l.copies.items ≡ map inheritable (take l.i (take l.len l.places)) ++ drop l.i (take l.len l.places);
  numbers : l.free ≡ map is_some (take l.i l.copies.items) ++ replicate (l.len - l.i) true;
}
