-- What each call may be refused with, beside want of memory (8): by the numbers of docs/BEHAVIOUR.md. In which order
-- they are tested the call's definition says (`outcome_of`).
use Rattle.std.specs.Prelude.{◌≡◌, ◌==◌, Bool, true, List, [], ◌∷◌}
use Rattle.std.specs.List.{list_any}
use Rattle.ob_rights.specs.Fault.{code_of}
use Rattle.ob_rights.specs.declared.fault.Fault.{Fault}
use Rattle.ob_rights.specs.declared.fault.Fault.TheVariants.{Parameter, Busy, NameLong, NamePath, Handle, Access, NotFound, NotOwner, Posts, Limit}
use Rattle.ob_manager.specs.Calls.{Call}
use Rattle.ob_manager.specs.declared.call.CallOf.TheVariants as calls

abbrev pub refusals_of : Call → List Fault
refusals_of (calls.Spawn session) = Limit ∷ []
refusals_of (calls.Child thread inherit) = Parameter ∷ Busy ∷ Limit ∷ []
refusals_of (calls.StartThread process) = Parameter ∷ Limit ∷ []
refusals_of (calls.MakeEvent thread making manual set) =
    Parameter ∷ Busy ∷ NameLong ∷ NamePath ∷ Handle ∷ Access ∷ Limit ∷ []
refusals_of (calls.MakeMutex thread making owned) =
    Parameter ∷ Busy ∷ NameLong ∷ NamePath ∷ Handle ∷ Access ∷ Limit ∷ []
refusals_of (calls.MakeSemaphore thread making initial max) =
    Parameter ∷ Busy ∷ NameLong ∷ NamePath ∷ Handle ∷ Access ∷ Limit ∷ []
refusals_of (calls.MakeTimer thread making manual) =
    Parameter ∷ Busy ∷ NameLong ∷ NamePath ∷ Handle ∷ Access ∷ Limit ∷ []
refusals_of (calls.MakeHost thread making object_type manual signaled) =
    Parameter ∷ Busy ∷ NameLong ∷ NamePath ∷ Handle ∷ Access ∷ Limit ∷ []
refusals_of (calls.OpenNamed thread kind mask inherit text) =
    Parameter ∷ Busy ∷ NameLong ∷ NamePath ∷ NotFound ∷ Handle ∷ Access ∷ Limit ∷ []
refusals_of (calls.Duplicate thread source handle target mask inherit options) =
    Parameter ∷ Busy ∷ Handle ∷ Access ∷ Limit ∷ []
refusals_of (calls.CloseHandle thread handle) = Parameter ∷ Busy ∷ Handle ∷ []
refusals_of (calls.GetFlags thread handle) = Parameter ∷ Busy ∷ Handle ∷ []
refusals_of (calls.SetFlags thread handle mask flags) = Parameter ∷ Busy ∷ Handle ∷ []
refusals_of (calls.SetEvent thread handle) = Parameter ∷ Busy ∷ Handle ∷ Access ∷ []
refusals_of (calls.ResetEvent thread handle) = Parameter ∷ Busy ∷ Handle ∷ Access ∷ []
refusals_of (calls.PulseEvent thread handle) = Parameter ∷ Busy ∷ Handle ∷ Access ∷ []
refusals_of (calls.ReleaseSemaphore thread handle count) = Parameter ∷ Busy ∷ Handle ∷ Access ∷ Posts ∷ []
refusals_of (calls.ReleaseMutex thread handle) = Parameter ∷ Busy ∷ Handle ∷ NotOwner ∷ []
refusals_of (calls.SignalHost id signaled) = Handle ∷ []
refusals_of (calls.SetTimer thread handle due) = Parameter ∷ Busy ∷ Handle ∷ Access ∷ []
refusals_of (calls.SetPeriodicTimer thread handle due period) = Parameter ∷ Busy ∷ Handle ∷ Access ∷ []
refusals_of (calls.CancelTimer thread handle) = Parameter ∷ Busy ∷ Handle ∷ Access ∷ []
refusals_of (calls.Tick now) = Parameter ∷ []
refusals_of (calls.WaitFor thread mode timeout handles) = Parameter ∷ Busy ∷ Handle ∷ Access ∷ Limit ∷ []
refusals_of (calls.SignalAndWait thread signal timeout handle) =
    Parameter ∷ Busy ∷ Handle ∷ Access ∷ Posts ∷ NotOwner ∷ Limit ∷ []
refusals_of (calls.Sleep thread timeout) = Parameter ∷ Busy ∷ Limit ∷ []
refusals_of (calls.WaitResult number) = Parameter ∷ []
refusals_of (calls.Expire number) = Parameter ∷ []
refusals_of (calls.Alert number) = Parameter ∷ []
refusals_of (calls.EndThread thread) = Parameter ∷ []
refusals_of (calls.Exit process) = Parameter ∷ []
refusals_of (calls.Reap slot) = Parameter ∷ Handle ∷ []
refusals_of (calls.Counts id) = Parameter ∷ Handle ∷ []

-- refusals are told apart by their numbers
abbrev pub same_fault : Fault → Fault → Bool
same_fault a b = code_of a == code_of b

abbrev pub IsAmong : List Fault → Fault → Type 0
IsAmong faults fault = list_any (same_fault fault) faults ≡ true
