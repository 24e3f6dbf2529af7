use Rattle.ob_manager.proofs.Waited.{asked}
use Rattle.ob_manager.proofs.waiting.wait_for_some.Goals as goal

pub wait_on-requires : goal.wait_on-requires
wait_on-requires g c =
    let are = asked c.args.store.now.state c.args.process c.args.mode c.args.handles.now c.collect.new.ids.items
    c.in_ok-collect.ensures.value in
    rw c.as_slice.ensures.value (search are)
