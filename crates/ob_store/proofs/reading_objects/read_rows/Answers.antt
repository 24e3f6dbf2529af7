use Rattle.ob_store.proofs.Cited.{err_from_is_err_and}
use Rattle.ob_store.proofs.SavedLaws.{read_begins, read_done, read_ends, read_goes_on, read_long, vacant_here}
use Rattle.ob_store.proofs.reading_objects.read_rows.Goals as goal

pub loop-slot-init : goal.loop-slot-init
loop-slot-init c = read_begins c.in_ok-headers.ensures c.new-begun.ensures.items

pub returns-in_err-saved-clause-read : goal.returns-in_err-saved-clause-read
returns-in_err-saved-clause-read c =
    let p = err_from_is_err_and c.from_residual-in_err-saved.result c.from_residual-in_err-saved.ensures.1 in
    rw (p.1, p.2) (read_ends c.requires.within c.loop-slot.invariant c.in_err-saved.field-0.0 c.loop-slot-test.true
    c.in_err-saved.ensures)

pub restore-requires : goal.restore-requires
restore-requires c = vacant_here c.requires.within c.loop-slot.invariant c.loop-slot-test.true

pub loop-slot-preserved : goal.loop-slot-preserved
loop-slot-preserved c =
    rw (c.restore.ensures, c.in_ok-push.ensures.items, c.keeper_slot.ensures, c.is_fresh-ends_used.ensures)
    (read_goes_on c.requires.within c.loop-slot.invariant c.in_ok-saved.saved c.loop-slot-test.true c.in_ok-saved.ensures)

pub returns-clause-read : goal.returns-clause-read
returns-clause-read c = read_done c.requires.within c.loop-slot.invariant c.loop-slot-test.false

pub returns-clause-long : goal.returns-clause-long
returns-clause-long c =
    read_long c.requires.within c.loop-slot.invariant c.loop-slot-test.false c.loop-slot.auto.slot-end
