-- Lists in which nothing stands twice since they rise: how the code of a wait looks for what stands twice.
use Rattle.std.specs.Prelude.{ℕ, ◌+◌, ◌/◌, ◌&&◌, nat_lt, Bool, true, List, [], ◌∷◌, Result}
use Rattle.pin_core.specs.declared.id.Id.{Id}
use Rattle.ob_rights.specs.declared.fault.Fault.{Fault}
use Rattle.ob_rights.specs.declared.fault.Fault.TheVariants as fault
use Rattle.ob_store.specs.State.{State}
use Rattle.ob_waits.specs.declared.wait.Mode.{Mode}
use Rattle.ob_manager.specs.Outcomes.{◌>>=◌, refuse_if}
use Rattle.ob_manager.specs.Waiting.{is_misshapen, may_repeat, objects_of}

-- each element's place is above the one before it
abbrev pub rise : {A : Type 0} → (A → ℕ) → ℕ → List A → Bool
rise place last [] = true
rise place last (x ∷ xs) = nat_lt last (place x) && rise place (place x) xs

abbrev pub place_of_handle : ℕ → ℕ
place_of_handle handle = handle / 4

abbrev pub place_of_object : Id → ℕ
place_of_object id = id.slot + 1

-- the objects of a list of handles that is to be waited for: 87 where it is none to wait for, then as they are
abbrev pub listed : State → ℕ → Mode → List ℕ → Result (List Id) Fault
listed s process mode handles = do
  _ ← refuse_if (is_misshapen (may_repeat s.limits mode) handles) fault.Parameter
  objects_of s process handles
