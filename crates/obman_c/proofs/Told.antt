-- What is told of a call that was made.
use Rattle.std.proofs.Common.{◌≡◌, ℕ, rules}
use Rattle.ob_store.specs.State.{Whole}
use Rattle.pin_core.specs.declared.id.Id.{Id}
use Rattle.ob_manager.specs.Calls.{Call}
use Rattle.ob_manager.specs.declared.call.CallOf.TheVariants as calls
use Rattle.ob_manager.specs.declared.reply.Reply.{Reply}
use Rattle.ob_manager.specs.Steps.{Step}
use Rattle.obman_c_base.specs.Made.{Makes}
use Rattle.obman_c_base.specs.declared.owned.OwnedManager.{OwnedManager}
use Rattle.obman_c.specs.Telling.{TellsStatus, TellsValue, status_of}

pub tells : {old new : OwnedManager} {call : Call} {reply : Reply} {status : ℕ} → Makes old call reply new
    → status ≡ status_of reply → TellsStatus old call status new
tells {reply = reply} made told = record { reply = reply; made = made; told = told }

pub tells_as : {V : Type 0} {value_of : Reply → V → V} {old new : OwnedManager} {call : Call} {reply : Reply}
    {status : ℕ} {before after : V} → Makes old call reply new → status ≡ status_of reply
    → after ≡ value_of reply before → TellsValue value_of old call status new before after
tells_as {reply = reply} made told value = record { reply = reply; made = made; told = told; value = value }

-- What is read changes nothing.
pub flags_same : (w v : Whole) (thread handle : ℕ) (reply : Reply) → Step w (calls.GetFlags thread handle) reply v
    → v ≡ w
flags_same w v thread handle reply step = search rules

pub counts_same : (w v : Whole) (id : Id) (reply : Reply) → Step w (calls.Counts id) reply v → v ≡ w
counts_same w v id reply step = search rules
