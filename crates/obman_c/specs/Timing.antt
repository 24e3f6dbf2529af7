-- Time goes on to a moment, over each one before it at which something is due.
use Rattle.std.specs.Prelude.{◌≡◌, ◌<◌, ◌≤◌, ℕ, Some}
use Rattle.least.specs.Dues.{IsLeast}
use Rattle.ob_store.specs.Dues.{dues_of}
use Rattle.ob_manager.specs.declared.call.CallOf.TheVariants as calls
use Rattle.ob_manager.specs.declared.reply.Reply.TheVariants.{Ticked}
use Rattle.obman_c_base.specs.Made.{Makes}
use Rattle.obman_c_base.specs.declared.owned.OwnedManager.{OwnedManager}
use Rattle.obman_c.specs.Telling.{TellsStatus}

-- a tick to the next moment at which something is due, where that is before a moment
pub record TicksNext (moment : ℕ) (old : OwnedManager) (due : ℕ) (new : OwnedManager) : Type 0 where
  pub next : IsLeast (dues_of old.manager.state) (Some due)
  pub before : due < moment
  pub made : Makes old (calls.Tick due) (Ticked due) new

-- such ticks, one after another
pub data Serves (moment : ℕ) (old : OwnedManager) : OwnedManager → Type 0 where
  none : Serves moment old old
  more : {between new : OwnedManager} {due : ℕ} → Serves moment old between → TicksNext moment between due new
      → Serves moment old new

-- all of them, and then a tick to the moment, of which it is told; where that is refused it is the only one
pub record Advances (old : OwnedManager) (moment status : ℕ) (new : OwnedManager) : Type 0 where
  pub between : OwnedManager
  pub served : Serves moment old between
  pub told : TellsStatus between (calls.Tick moment) status new
  pub all : status ≡ 0 → (due : ℕ) → IsLeast (dues_of between.manager.state) (Some due) → moment ≤ due
  pub refused : (status ≡ 0 → ⊥) → between ≡ old
