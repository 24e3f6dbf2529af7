use Rattle.std.proofs.Common.{[], ◌∷◌, refl}
use Rattle.ob_manager.proofs.Waited.{all_there}
use Rattle.ob_manager.proofs.waiting.wait_for_one.Goals as goal

pub wait_on-requires-clause-is_there : goal.wait_on-requires-clause-is_there
wait_on-requires-clause-is_there g c = (all_there c.args.store.now.state c.args.process (c.args.handle ∷ [])
    (c.in_ok-entry.entry ∷ []) (rw c.in_ok-entry.ensures.is_there refl)).1
