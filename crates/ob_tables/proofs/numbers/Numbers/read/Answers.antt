use Rattle.std.proofs.Common.{◌-◌, arith}
use Rattle.std.proofs.lemmas.Bool.Decides.{nat_tests}
use Rattle.ob_tables.proofs.NumberLaws.{read_first, read_next, stands_taken}
use Rattle.ob_tables.proofs.numbers.Numbers.read.Goals as goal

pub loop-place-init : goal.loop-place-init
loop-place-init c = rw c.in_ok-taken.ensures (read_first c.in_ok-places.places.items (c.len.result - 1)
    (grind (arith, nat_tests, c.len.ensures, c.is_empty.ensures, c.if-is_empty.false)))

pub free_at-requires-clause-taken : goal.free_at-requires-clause-taken
free_at-requires-clause-taken c = search (arith, stands_taken)

pub loop-place-preserved : goal.loop-place-preserved
loop-place-preserved c = read_next _ _ _ _ (omega arith) (omega arith) (search arith) c.loop-place.invariant
