-- No call changes the limits.
use Rattle.std.proofs.Common.{◌≡◌, arith}
use Rattle.ob_store.specs.State.{Whole}
use Rattle.ob_manager.specs.Calls.{Call}
use Rattle.ob_manager.specs.declared.reply.Reply.{Reply}
use Rattle.ob_manager.specs.Steps.{Step}
use Rattle.ob_manager.proofs.StepLaws.{said}

pub step_limits : (w v : Whole) (call : Call) (reply : Reply) → Step w call reply v → v.state.limits ≡ w.state.limits
step_limits w v call reply step = grind (arith, said w v call reply)
