-- Why a script with lanes wasn't answered to its end.
use Rattle.std.specs.Prelude.{ℕ, Result, IsErrOf}
use Rattle.ob_script.specs.Pending.{FailedOrLast}
use Rattle.ob_console.specs.declared.lanes.fault.LanesFault.{LanesFault}
use Rattle.ob_console.specs.declared.lanes.fault.LanesFault.TheVariants.{Write}

-- where a write was at fault, something stopped the writes
abbrev pub WriteHasCause : {A S : Type 0} → Result A LanesFault → (S → ℕ) → S → S → ℕ → Type 0
WriteHasCause result faults sink sink' writes_left = IsErrOf result Write → FailedOrLast faults sink sink' writes_left
