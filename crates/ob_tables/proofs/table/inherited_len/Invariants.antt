use Rattle.std.proofs.Common.{◌≡◌, take}
use Rattle.ob_tables.specs.Inheritance.{inherited}
use Rattle.ob_tables.proofs.table.inherited_len.Given as goal

abbrev pub invariant-loop-i : goal.invariant-loop-i
invariant-loop-i l = inherited (take l.i l.places) ≡ inherited l.places
