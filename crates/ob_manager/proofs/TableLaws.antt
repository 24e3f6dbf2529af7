-- No call gives the keeper another table or another shape: a reader of a manager's words stays one.
use Rattle.std.proofs.Common.{◌≡◌, arith, Some, ◌∙◌}
use Rattle.pin_words.specs.Seats.{TableState}
use Rattle.ob_store.specs.State.{Whole}
use Rattle.ob_manager.specs.Calls.{Call}
use Rattle.ob_manager.specs.declared.reply.Reply.{Reply}
use Rattle.ob_manager.specs.Steps.{Step}

pub step_shape : (w v : Whole) (call : Call) (reply : Reply) → Step w call reply v → v.keeper.shape ≡ w.keeper.shape
step_shape w v call reply step = grind arith

pub step_same_table : (w v : Whole) (call : Call) (reply : Reply) → Step w call reply v
    → v.keeper.table ≡ w.keeper.table
step_same_table w v call reply step = grind arith

pub step_table : (w v : Whole) (call : Call) (reply : Reply) (t : TableState) → Step w call reply v
    → w.keeper.table ≡ Some t → v.keeper.table ≡ Some t
step_table w v call reply t step is = step_same_table w v call reply step ∙ is
