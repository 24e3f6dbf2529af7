-- A call, whose name and handles are lists, and the same call with other parts.
use Rattle.std.specs.Prelude.{ℕ, Bool, false, true, List}
use Rattle.ob_manager.specs.declared.call.CallOf.{CallOf}
use Rattle.ob_manager.specs.declared.call.CallOf.TheVariants as calls
use Rattle.ob_manager.specs.Makings.{Making}

abbrev pub Call : Type 0
Call = CallOf Making (List ℕ) (List ℕ)

-- each call but a create, an open and a wait, which may have a name or handles that lie apart
abbrev pub is_plain : {M T H : Type 0} → CallOf M T H → Bool
is_plain (calls.MakeEvent thread making manual set) = false
is_plain (calls.MakeMutex thread making owned) = false
is_plain (calls.MakeSemaphore thread making initial max) = false
is_plain (calls.MakeTimer thread making manual) = false
is_plain (calls.MakeHost thread making object_type manual signaled) = false
is_plain (calls.OpenNamed thread kind mask inherit text) = false
is_plain (calls.WaitFor thread mode timeout handles) = false
is_plain call = true

abbrev pub is_wait : {M T H : Type 0} → CallOf M T H → Bool
is_wait (calls.WaitFor thread mode timeout handles) = true
is_wait call = false

-- a call that may leave its thread with a pending wait
abbrev pub begins_wait : {M T H : Type 0} → CallOf M T H → Bool
begins_wait (calls.WaitFor thread mode timeout handles) = true
begins_wait (calls.SignalAndWait thread signal timeout handle) = true
begins_wait (calls.Sleep thread timeout) = true
begins_wait call = false

-- what a create asks for, a name and a list of handles are these of those that the call had
abbrev pub with_parts : {M T H N U G : Type 0} → (M → N) → (T → U) → (H → G) → CallOf M T H → CallOf N U G
with_parts f g h (calls.Spawn session) = calls.Spawn session
with_parts f g h (calls.Child thread inherit) = calls.Child thread inherit
with_parts f g h (calls.StartThread process) = calls.StartThread process
with_parts f g h (calls.MakeEvent thread make manual set) = calls.MakeEvent thread (f make) manual set
with_parts f g h (calls.MakeMutex thread make owned) = calls.MakeMutex thread (f make) owned
with_parts f g h (calls.MakeSemaphore thread make initial max) = calls.MakeSemaphore thread (f make) initial max
with_parts f g h (calls.MakeTimer thread make manual) = calls.MakeTimer thread (f make) manual
with_parts f g h (calls.MakeHost thread make object_type manual signaled) =
    calls.MakeHost thread (f make) object_type manual signaled
with_parts f g h (calls.OpenNamed thread kind mask inherit text) = calls.OpenNamed thread kind mask inherit (g text)
with_parts f g h (calls.Duplicate thread source handle target mask inherit options) =
    calls.Duplicate thread source handle target mask inherit options
with_parts f g h (calls.CloseHandle thread handle) = calls.CloseHandle thread handle
with_parts f g h (calls.GetFlags thread handle) = calls.GetFlags thread handle
with_parts f g h (calls.SetFlags thread handle mask flags) = calls.SetFlags thread handle mask flags
with_parts f g h (calls.SetEvent thread handle) = calls.SetEvent thread handle
with_parts f g h (calls.ResetEvent thread handle) = calls.ResetEvent thread handle
with_parts f g h (calls.PulseEvent thread handle) = calls.PulseEvent thread handle
with_parts f g h (calls.ReleaseSemaphore thread handle count) = calls.ReleaseSemaphore thread handle count
with_parts f g h (calls.ReleaseMutex thread handle) = calls.ReleaseMutex thread handle
with_parts f g h (calls.SignalHost id signaled) = calls.SignalHost id signaled
with_parts f g h (calls.SetTimer thread handle due) = calls.SetTimer thread handle due
with_parts f g h (calls.SetPeriodicTimer thread handle due period) = calls.SetPeriodicTimer thread handle due period
with_parts f g h (calls.CancelTimer thread handle) = calls.CancelTimer thread handle
with_parts f g h (calls.Tick now) = calls.Tick now
with_parts f g h (calls.WaitFor thread mode timeout handles) = calls.WaitFor thread mode timeout (h handles)
with_parts f g h (calls.SignalAndWait thread signal timeout handle) = calls.SignalAndWait thread signal timeout handle
with_parts f g h (calls.Sleep thread timeout) = calls.Sleep thread timeout
with_parts f g h (calls.WaitResult number) = calls.WaitResult number
with_parts f g h (calls.Expire number) = calls.Expire number
with_parts f g h (calls.Alert number) = calls.Alert number
with_parts f g h (calls.EndThread thread) = calls.EndThread thread
with_parts f g h (calls.Exit process) = calls.Exit process
with_parts f g h (calls.Reap slot) = calls.Reap slot
with_parts f g h (calls.Counts id) = calls.Counts id
