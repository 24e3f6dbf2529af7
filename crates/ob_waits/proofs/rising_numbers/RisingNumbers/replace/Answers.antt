use Rattle.std.proofs.Common.{arith}
use Rattle.ob_waits.proofs.NumberLaws.{replaced, ordered_replaced, keeps_replaced, within_replaced, below_pending}
use Rattle.ob_waits.proofs.rising_numbers.RisingNumbers.replace.Goals as goal

pub returns-then-not-is_over-clause-above : goal.returns-then-not-is_over-clause-above
returns-then-not-is_over-clause-above c = rw (← c.self.view_is) (below_pending (replaced {m = c.args.number}
    c.self.inside.numbers.items (c.self.inside.numbers.ok.0, c.len-end.ensures)
    c.self.invariant c.if-self-end.false c.index-last.ensures) c.args.live.now (search arith) c.requires.fresh
    (rw (← c.self.view_is) at c.requires.ordered))

pub returns-clause-ordered : goal.returns-clause-ordered
returns-clause-ordered c = ordered_replaced (replaced c.self.inside.numbers.items (c.self.inside.numbers.ok.0, c.len-end.ensures)
    c.self.invariant c.if-self-end.false c.index-last.ensures) (rw (← c.self.view_is) at c.requires.ordered)

pub returns-clause-keeps : goal.returns-clause-keeps
returns-clause-keeps c = rw (← c.self.view_is) (keeps_replaced (replaced c.self.inside.numbers.items (c.self.inside.numbers.ok.0, c.len-end.ensures)
    c.self.invariant c.if-self-end.false c.index-last.ensures) c.args.live.now (search arith))

pub returns-clause-entered : goal.returns-clause-entered
returns-clause-entered c = within_replaced (replaced c.self.inside.numbers.items (c.self.inside.numbers.ok.0, c.len-end.ensures)
    c.self.invariant c.if-self-end.false c.index-last.ensures)
