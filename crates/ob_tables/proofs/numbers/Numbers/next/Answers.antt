use Rattle.std.proofs.Common.{arith, true}
use Rattle.ob_tables.proofs.GivenLaws.{next_is_free}
use Rattle.ob_tables.proofs.NumberLaws.{least_is}
use Rattle.ob_tables.proofs.numbers.Numbers.next.Goals as goal

pub overflow_add-result : goal.overflow_add-result
overflow_add-result c = let m = c.args.self.now in search (arith, least_is m.taken m.places.items, next_is_free true m.places.items)

pub overflow_cast-result : goal.overflow_cast-result
overflow_cast-result c = let m = c.args.self.now in search (arith, least_is m.taken m.places.items, next_is_free true m.places.items)

pub returns-then-reuse-clause-value : goal.returns-then-reuse-clause-value
returns-then-reuse-clause-value c = search (arith, least_is)

pub returns-then-reuse-clause-above : goal.returns-then-reuse-clause-above
returns-then-reuse-clause-above c = search (arith, returns-then-reuse-clause-value, next_is_free)

pub returns-then-reuse-clause-within : goal.returns-then-reuse-clause-within
returns-then-reuse-clause-within c = rw (returns-then-reuse-clause-value c) (search (arith, next_is_free))

pub returns-then-reuse-clause-gone : goal.returns-then-reuse-clause-gone
returns-then-reuse-clause-gone c = rw (returns-then-reuse-clause-value c) (search (arith, next_is_free))
