use Rattle.std.proofs.lemmas.Result.{err_from_is_err_and}
use Rattle.ob_waits.proofs.RowLaws.{all_put, ends, goes_on}
use Rattle.ob_waits.proofs.reading.put_all.Goals as goal

pub returns-in_err-put_back : goal.returns-in_err-put_back
returns-in_err-put_back c =
    let p = err_from_is_err_and c.from_residual.result c.from_residual.ensures.1 in
    rw (p.1, p.2) (ends c.args.rows.now c.loop-held.held-index c.loop-held.invariant c.in_err-put_back.field-0.0
    c.held-item.result c.loop-held-test.true c.held-item.is c.in_err-put_back.ensures)

pub loop-held-preserved : goal.loop-held-preserved
loop-held-preserved c = goes_on c.args.rows.now c.loop-held.held-index c.loop-held.invariant c.put_back.new.waits
    c.held-item.result c.loop-held-test.true c.held-item.is c.in_ok-put_back.ensures

pub returns : goal.returns
returns c =
    let can = rw c.skip_to.ensures.value at c.skip_to.ensures.can_be in
    rw c.skip_to.ensures.value
    (all_put c.args.rows.now c.loop-held.held-index c.loop-held.invariant c.loop-held-test.false can)
