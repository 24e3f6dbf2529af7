use Rattle.ob_waits.proofs.Cited.{arith, append-nil}
use Rattle.ob_waits.proofs.WriteLaws.{all_rows_few, row_none, written_next}
use Rattle.ob_waits.proofs.writing.write_rows.Goals as goal

pub loop-number-preserved : goal.loop-number-preserved
loop-number-preserved c =
    written_next c.loop-number.last c.in-Some.number c.loop-number.count c.in_ok-count.field-0 c.loop-number.out.items
    c.write_row.new.out.items c.args.out.now.items c.args.live.now
    c.in-Some.ensures.above c.in-Some.ensures.least c.in_ok-count.ensures.text c.in_ok-count.ensures.count
    c.in_ok-count.ensures.fits c.loop-number.invariant

pub overflow_add-count : goal.overflow_add-count
overflow_add-count c =
    let w = written_next c.loop-number.last c.in-Some.number c.loop-number.count c.in_ok-count.field-0
    c.loop-number.out.items c.write_row.new.out.items c.args.out.now.items c.args.live.now
    c.in-Some.ensures.above c.in-Some.ensures.least c.in_ok-count.ensures.text c.in_ok-count.ensures.count
    c.in_ok-count.ensures.fits c.loop-number.invariant in
    let many = w.many in
    let few = all_rows_few c.args.live.now c.requires.none in
    let given = c.given-given.ensures in
    let range = c.given-given.type_inv in
    omega arith

pub returns-clause-text : goal.returns-clause-text
returns-clause-text c =
    search (arith, append-nil, row_none)
