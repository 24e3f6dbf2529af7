use Rattle.std.proofs.Common.{arith}
use Rattle.obman_c.proofs.Read.{unpinned}
use Rattle.obman_c.proofs.readers.om_reader_unpin.Goals as goal

pub returns-clause-told : goal.returns-clause-told
returns-clause-told c =
    let was = c.release_if_held.ensures.held.0 (search (arith, c.if-not-release_if_held.false)) in
    let view = c.release_if_held.ensures.view (search (arith, c.if-not-release_if_held.false)) in
    search (arith, unpinned, was, view)

pub returns-clause-step : goal.returns-clause-step
returns-clause-step c = λ told.
    let step = c.release_if_held.ensures.steps (search (arith, c.if-not-release_if_held.false)) in
    rw (c.lend.ensures.value, c.id_at.ensures) at step
