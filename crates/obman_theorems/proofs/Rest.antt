-- What a call comes to, from rest to rest.
use Rattle.std.proofs.Common.{arith, ◌≡◌, ℕ, Bool, Option, subst}
use Rattle.pin_core.specs.declared.world.Slot.{Slot}
use Rattle.ob_body.specs.declared.body.Body.{Body}
use Rattle.ob_store.specs.Agreement.{Agrees}
use Rattle.ob_store.specs.Consistent.{IsConsistent}
use Rattle.ob_store.specs.Objects.{Object}
use Rattle.ob_store.specs.State.{Whole}
use Rattle.ob_manager.specs.Calls.{Call}
use Rattle.ob_manager.specs.Steps.{Step}
use Rattle.ob_manager.specs.declared.reply.Reply.{Reply}
use Rattle.ob_manager.proofs.LimitLaws.{step_limits}
use Rattle.ob_manager.proofs.StepLaws.{step_next}
use Rattle.ob_console.specs.Pinning.{phase_in}
use Rattle.obman_theorems.proofs.RefusalLaws.{refused}
use Rattle.obman_theorems.specs.Theorems.{IsAtRest, IsMade}

phase_is : (k : ℕ) (o : Option Object) (b : Option Body) (retired : Bool) (x : Slot) → Agrees k o b retired x
    → x.phase ≡ phase_in o b retired
phase_is k o b retired x h = search arith

pub at_rest : (w : Whole) → IsConsistent w → IsAtRest w
at_rest w kept = search (arith, phase_is)

pub steps : (w v : Whole) (call : Call) (reply : Reply) → Step w call reply v → IsConsistent w → IsConsistent v
    → IsMade w call reply v
steps w v call reply step before behind = record {
  before = at_rest w before;
  step = step;
  state = step_next w v call reply step;
  limits = step_limits w v call reply step;
  refused = λ fault is. refused w v call fault (subst (λ (r : Reply). Step w call r v) is step);
  behind = at_rest v behind;
}
