-- A call is answered as its line is.
use Rattle.ob_script.proofs.Cited.{Zero, ◌≡◌, ◌↔◌, arith, Reply, Call, as_said}
use Rattle.ob_manager.specs.declared.call.CallOf.TheVariants as calls
use Rattle.ob_manager.specs.Steps.{Step, is_duplicate, outcome_of, takes_memory}
use Rattle.ob_store.specs.State.{State, Whole}

-- calls that come to the same are answered alike
pub record Alike (a b : Call) : Type 0 where
  pub outcome : (s : State) (reply : Reply) → outcome_of s a reply ≡ outcome_of s b reply
  pub memory : (s : State) → takes_memory s a ≡ takes_memory s b
  pub duplicates : is_duplicate a ≡ is_duplicate b

carries : (a b : Call) → Alike a b → (w v : Whole) (reply : Reply) → Step w a reply v → Step w b reply v
carries a b alike w v reply step = search arith

flipped : (a b : Call) → Alike a b → Alike b a
flipped a b alike = search arith

said_alike : (call : Call) → Alike (as_said call) call
said_alike (calls.SignalAndWait thread signal Zero handle) = search arith
said_alike call = search arith

pub answered_alike : (w v : Whole) (call : Call) (reply : Reply) → Step w (as_said call) reply v ↔ Step w call reply v
answered_alike w v call reply =
    (carries _ _ (said_alike call) w v reply, carries _ _ (flipped _ _ (said_alike call)) w v reply)
