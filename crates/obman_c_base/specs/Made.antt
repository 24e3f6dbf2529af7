-- A call that C makes: it is recorded, with its reply, where calls are recorded.
use Rattle.std.specs.Prelude.{◌≡◌, ℕ, List}
use Rattle.std.specs.Borrow.{Bor}
use Rattle.pin_words.specs.Keepers.{ReclaimsFound}
use Rattle.ob_manager.specs.Calls.{Call, with_parts}
use Rattle.ob_manager.specs.declared.call.CallOf.{CallOf}
use Rattle.ob_manager.specs.declared.making.Make.{Make}
use Rattle.ob_manager.specs.declared.reply.Reply.{Reply}
use Rattle.ob_manager.specs.HostData.{data_after}
use Rattle.ob_manager.specs.Makings.{making_of}
use Rattle.ob_manager.specs.Reaping.{IfReap, IfReaped}
use Rattle.ob_manager.specs.Steps.{Step}
use Rattle.ob_script.specs.Recording.{Notes}
use Rattle.ob_script.specs.Telling.{text_for}
use Rattle.obman_c_base.specs.declared.owned.OwnedManager.{OwnedManager}

-- which call it is, with its name and its handles as lists
abbrev pub call_of : CallOf Make (Bor (List ℕ)) (Bor (List ℕ)) → Call
call_of = with_parts making_of (λ text. text.now) (λ handles. handles.now)

-- From a state a call gives a reply and goes on as the manager does; a slot that it takes back is held just by the pins
-- that its word has, as the exchange found it; where calls are recorded this one is, with the reply; and at what begins
-- the host keeps nothing yet.
pub record Makes (old : OwnedManager) (call : Call) (reply : Reply) (new : OwnedManager) : Type 0 where
  pub step : Step old.manager call reply new.manager
  pub exact : IfReap call (λ slot. IfReaped reply
      (λ outcome. ReclaimsFound old.manager.keeper slot outcome new.manager.keeper))
  pub noted : Notes old.recorder (text_for call reply) new.recorder
  pub kept : new.kept ≡ data_after call reply old.kept
