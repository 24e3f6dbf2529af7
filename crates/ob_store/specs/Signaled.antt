-- The slots whose mutexes a call abandoned, or whose timers it fired, for the settling behind it.
use Rattle.std.specs.Prelude.{◌≡◌, ℕ, Bool, true, List, [], Option}
use Rattle.pin_core.specs.declared.id.Id.{Id}
use Rattle.ob_body.specs.declared.body.Body.{Body}
use Rattle.ob_waits.specs.declared.wait.Wait.{Wait}
use Rattle.ob_waits.specs.Rules.{IsReadyAtOne}

pub record SignaledState : Type 0 where
  pub ids : List Id
  pub whole : Bool  -- whether all of them are there

-- as waits take it: of the Id only the slot counts
abbrev pub in_slot : ℕ → Id
in_slot slot = record { slot = slot; generation = 0 }

abbrev pub none_signaled : SignaledState
none_signaled = record { ids = []; whole = true }

-- to settle by the waits for these slots is enough: each wait that is ready is so by one of them
pub record IsEnough (a : SignaledState) (bodies : List (Option Body)) (waits : List (Option Wait)) : Type 0 where
  pub each : a.whole ≡ true → IsReadyAtOne a.ids bodies waits

-- what was enough stays enough
abbrev pub KeepsEnough : SignaledState → List (Option Body) → SignaledState → List (Option Body) → Type 0
KeepsEnough a bodies b after = (waits : List (Option Wait)) → IsEnough a bodies waits → IsEnough b after waits
