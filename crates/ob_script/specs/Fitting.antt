-- The numbers of a call are those of their types.
use Rattle.std.specs.Prelude.{ℕ, ◌<◌, ◌≤◌, List, [], ◌∷◌, Option, Some, None, ℤ, pos, negsuc}
use Rattle.ob_rights.specs.declared.kind.Kind.{Kind}
use Rattle.ob_rights.specs.declared.kind.Kind.TheVariants.{Host}
use Rattle.ob_rights.specs.declared.rights.Rights.{Rights}
use Rattle.ob_manager.specs.declared.waiting.Timeout.{Timeout}
use Rattle.ob_manager.specs.declared.waiting.Timeout.TheVariants.{Zero, Infinite, Millis, Until}
use Rattle.ob_manager.specs.Makings.{Making}
use Rattle.ob_manager.specs.Calls.{Call}
use Rattle.ob_manager.specs.declared.call.CallOf.TheVariants as calls

-- a number of 32 bits
abbrev pub Small : ℕ → Type 0
Small n = n ≤ 4294967295

-- a number of 32 bits with a sign, and one of 64
abbrev pub FitsSign : ℕ → ℤ → Type 0
FitsSign limit (pos n) = n < limit
FitsSign limit (negsuc n) = n < limit

-- a mask, where there is one
abbrev pub FitsMask : Option Rights → Type 0
FitsMask None = Unit {0}
FitsMask (Some mask) = mask.0 ≤ 4294967295

-- a type of a host's objects is a byte
abbrev pub FitsKind : Kind → Type 0
FitsKind (Host object_type) = object_type ≤ 255
FitsKind kind = Unit {0}

-- a create's masks fit 32 bits
pub record FitsMake (make : Making) : Type 0 where
  pub access : FitsMask make.access
  pub grant : FitsMask make.grant

-- a process, where there is one
abbrev pub FitsTarget : Option ℕ → Type 0
FitsTarget None = Unit {0}
FitsTarget (Some process) = process ≤ 4294967295

abbrev pub FitsTimeout : Timeout → Type 0
FitsTimeout Zero = Unit {0}
FitsTimeout Infinite = Unit {0}
FitsTimeout (Millis millis) = millis ≤ 4294967295
FitsTimeout (Until due) = FitsSign 9223372036854775808 due

-- each handle fits 32 bits
abbrev pub FitHandles : List ℕ → Type 0
FitHandles [] = Unit {0}
FitHandles (handle ∷ handles) = (handle ≤ 4294967295) × FitHandles handles

-- the numbers of a call fit their types
abbrev pub Fits : Call → Type 0
Fits (calls.Spawn session) = Small session
Fits (calls.Child thread inherit) = Small thread
Fits (calls.StartThread process) = Small process
Fits (calls.MakeEvent thread make manual set) = Small thread × FitsMake make
Fits (calls.MakeMutex thread make owned) = Small thread × FitsMake make
Fits (calls.MakeSemaphore thread make initial max) = Small thread × FitsMake make × FitsSign 2147483648 initial
    × FitsSign 2147483648 max
Fits (calls.MakeTimer thread make manual) = Small thread × FitsMake make
Fits (calls.MakeHost thread make object_type manual signaled) = Small thread × FitsMake make × (object_type ≤ 255)
Fits (calls.OpenNamed thread kind mask inherit text) = Small thread × Small mask.0 × FitsKind kind
Fits (calls.Duplicate thread source handle target mask inherit options) = Small thread × Small source × Small handle
    × FitsTarget target × Small mask.0
Fits (calls.CloseHandle thread handle) = Small thread × Small handle
Fits (calls.GetFlags thread handle) = Small thread × Small handle
Fits (calls.SetFlags thread handle mask flags) = Small thread × Small handle × Small mask × Small flags
Fits (calls.SetEvent thread handle) = Small thread × Small handle
Fits (calls.ResetEvent thread handle) = Small thread × Small handle
Fits (calls.PulseEvent thread handle) = Small thread × Small handle
Fits (calls.ReleaseSemaphore thread handle count) = Small thread × Small handle × FitsSign 2147483648 count
Fits (calls.ReleaseMutex thread handle) = Small thread × Small handle
Fits (calls.SignalHost id signaled) = Small id.slot × Small id.generation
Fits (calls.SetTimer thread handle due) = Small thread × Small handle × FitsSign 9223372036854775808 due
Fits (calls.SetPeriodicTimer thread handle due period) = Small thread × Small handle
    × FitsSign 9223372036854775808 due × FitsSign 2147483648 period
Fits (calls.CancelTimer thread handle) = Small thread × Small handle
Fits (calls.Tick now) = Unit {0}
Fits (calls.WaitFor thread mode timeout handles) = Small thread × FitsTimeout timeout × FitHandles handles
Fits (calls.SignalAndWait thread signal timeout handle) = Small thread × Small signal × FitsTimeout timeout × Small handle
Fits (calls.Sleep thread timeout) = Small thread × FitsTimeout timeout
Fits (calls.WaitResult number) = Small number
Fits (calls.Expire number) = Small number
Fits (calls.Alert number) = Small number
Fits (calls.EndThread thread) = Small thread
Fits (calls.Exit process) = Small process
Fits (calls.Reap slot) = Small slot
Fits (calls.Counts id) = Small id.slot × Small id.generation
