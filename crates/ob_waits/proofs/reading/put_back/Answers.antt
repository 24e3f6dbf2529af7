use Rattle.std.proofs.Common.{sym, ◌∙◌, arith}
use Rattle.ob_waits.proofs.RowLaws.{alone_skipped, not_full}
use Rattle.ob_waits.proofs.reading.put_back.Goals as goal

pub overflow_sub-held : goal.overflow_sub-held
overflow_sub-held c = let some = c.may_come.ensures.above_zero c.if-not-may_come.false in omega (arith, some)

pub put_wait-requires-clause-alone : goal.put_wait-requires-clause-alone
put_wait-requires-clause-alone c = rw c.skip_to.ensures.value (alone_skipped c.args.last c.args.waits.now
    c.args.held.now (sym c.may_come.ensures.value ∙ c.if-not-may_come.false))

pub put_wait-requires-clause-below_limit : goal.put_wait-requires-clause-below_limit
put_wait-requires-clause-below_limit c = rw c.skip_to.ensures.value (not_full c.args.last c.args.waits.now
    c.args.held.now (sym c.may_come.ensures.value ∙ c.if-not-may_come.false)
    (c.may_come.ensures.above_zero c.if-not-may_come.false) c.requires)
