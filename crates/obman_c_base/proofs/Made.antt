-- A call that was made, by whether calls are recorded.
use Rattle.std.proofs.Common.{◌≡◌, ◌∙◌, Bool, false, subst, sym}
use Rattle.pin_words.specs.Keepers.{ReclaimsFound}
use Rattle.ob_manager.specs.Calls.{Call}
use Rattle.ob_manager.specs.declared.reply.Reply.{Reply}
use Rattle.ob_manager.specs.HostData.{data_after}
use Rattle.ob_manager.specs.Reaping.{IfReap, IfReaped}
use Rattle.ob_manager.specs.Steps.{Step}
use Rattle.ob_script.specs.Recording.{AddsWhere, Notes}
use Rattle.ob_script.specs.Telling.{text_for}
use Rattle.obman_c_base.specs.Made.{Makes}
use Rattle.obman_c_base.specs.declared.owned.OwnedManager.{OwnedManager}

module _ {old new : OwnedManager} {call : Call} {reply : Reply} where
  pub noted : Step old.manager call reply new.manager → IfReap call (λ slot. IfReaped reply
      (λ outcome. ReclaimsFound old.manager.keeper slot outcome new.manager.keeper))
      → Notes old.recorder (text_for call reply) new.recorder → new.kept ≡ data_after call reply old.kept
      → Makes old call reply new
  noted step exact lines kept = record { step = step; exact = exact; noted = lines; kept = kept }

  pub unnoted : {on : Bool} → on ≡ false → on ≡ old.recorder.is_on → new.recorder ≡ old.recorder
      → Step old.manager call reply new.manager → IfReap call (λ slot. IfReaped reply
      (λ outcome. ReclaimsFound old.manager.keeper slot outcome new.manager.keeper))
      → new.kept ≡ data_after call reply old.kept → Makes old call reply new
  unnoted off is same step exact kept = noted step exact
      (subst (λ (b : Bool). AddsWhere b old.recorder (text_for call reply) new.recorder) (sym off ∙ is) same) kept
