use Rattle.std.proofs.Common.{arith}
use Rattle.ob_manager.proofs.Waited.{waitable}
use Rattle.ob_manager.proofs.waiting.wait_on.Goals as goal

pub take_now-requires-clause-waitable : goal.take_now-requires-clause-waitable
take_now-requires-clause-waitable g c = search (arith, waitable c.args.store.now.state)

pub add_wait-requires-clause-waitable : goal.add_wait-requires-clause-waitable
add_wait-requires-clause-waitable g c = search (arith, waitable c.args.store.now.state)

pub add_wait-requires-clause-handled : goal.add_wait-requires-clause-handled
add_wait-requires-clause-handled g c = rw c.in_default.ensures.none c.requires.is_there
