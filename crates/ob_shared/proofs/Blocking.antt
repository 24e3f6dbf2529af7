-- The result of a wait that is no longer pending.
use Rattle.std.proofs.Common.{◌≡◌, ℕ, false, None, arith, slice_index_or}
use Rattle.ob_waits.specs.Waits.{is_pending}
use Rattle.ob_store.specs.State.{Whole}
use Rattle.ob_store.specs.Waiting.{wait_number}
use Rattle.ob_manager.specs.declared.call.CallOf.TheVariants as calls
use Rattle.ob_manager.specs.declared.reply.Reply.{Reply}
use Rattle.ob_manager.specs.declared.reply.Reply.TheVariants.{Pending}
use Rattle.ob_manager.specs.Steps.{Step, does, closes, lacks}

-- it isn't that it is pending
pub never_pending : (w v : Whole) (wait n : ℕ) (reply : Reply)
    → is_pending (slice_index_or w.state.waits (wait_number w.state wait) None) ≡ false
    → Step w (calls.WaitResult wait) reply v → reply ≡ Pending n → ⊥
never_pending w v wait n reply never (does comes keeps) is = grind arith
never_pending w v wait n reply never (closes it comes keeps) is = cc
never_pending w v wait n reply never (lacks takes ok fault same) is = cc
