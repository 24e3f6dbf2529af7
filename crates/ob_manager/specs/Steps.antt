-- One step of a manager, for each call.
use Rattle.std.specs.Prelude.{◌≡◌, ℕ, Result, Ok, Err, ◌&&◌, Bool, true, false, Option, Some, None, if◌then◌else◌, is_ok, slice_index_or}
use Rattle.pin_words.specs.Keepers.{KeeperState, stored, published, Reclaims}
use Rattle.pin_words.specs.declared.pin_keeper.Reclaim.{Reclaim}
use Rattle.pin_words.specs.declared.pin_keeper.Reclaim.TheVariants as reclaim
use Rattle.ob_rights.specs.declared.fault.Fault.{Fault}
use Rattle.ob_rights.specs.declared.fault.Fault.TheVariants as fault
use Rattle.ob_manager.specs.declared.reply.Reply.{Reply}
use Rattle.ob_manager.specs.declared.reply.Reply.TheVariants.{Spawned, Started, Made, Exists, Opened, Flags, Pending, Reaped, CountsAre, Refused}
use Rattle.ob_manager.specs.Calls.{Call}
use Rattle.ob_manager.specs.declared.call.CallOf.TheVariants as calls
use Rattle.ob_store.specs.Objects.{Object}
use Rattle.ob_store.specs.State.{State, Whole}
use Rattle.ob_store.specs.Moves.{OnlyCloses}
use Rattle.ob_manager.specs.Outcomes.{Outcome, Refuses}
use Rattle.ob_manager.specs.Processes.{spawn, child, thread}
use Rattle.ob_manager.specs.Creating.{create_event, create_host, create_mutex, create_semaphore, create_timer, open_named, takes_place}
use Rattle.ob_manager.specs.Handles.{close, handle_flags, set_handle_flags}
use Rattle.ob_manager.specs.Copying.{duplicate, is_copy}
use Rattle.ob_manager.specs.Signaling.{set_event, reset_event, pulse_event, release_semaphore, release_mutex, signal_host}
use Rattle.ob_manager.specs.Timing.{set_timer, set_periodic_timer, cancel_timer, tick}
use Rattle.ob_manager.specs.Counting.{counts}
use Rattle.ob_manager.specs.Ending.{end_thread, exit}
use Rattle.ob_manager.specs.Reaping.{reap}
use Rattle.ob_manager.specs.Waiting.{alert, becomes_pending, expire, signal_and_wait, sleep, wait, wait_result}

-- what became of a slot, as a reply says it; other replies say nothing of a slot
abbrev pub reclaim_in : Reply → Reclaim
reclaim_in (Reaped id outcome) = outcome
reclaim_in reply = reclaim.Freed

-- what each call comes to. It is determined but for one free choice, what becomes of a slot that is reaped, which the
-- reply says
abbrev pub outcome_of : State → Call → Reply → Result Outcome Fault
outcome_of s (calls.Spawn session) reply = spawn s session
outcome_of s (calls.Child thread inherit) reply = child s thread inherit
outcome_of s (calls.StartThread process) reply = thread s process
outcome_of s (calls.MakeEvent thread making manual set) reply = create_event s thread making manual set
outcome_of s (calls.MakeMutex thread making owned) reply = create_mutex s thread making owned
outcome_of s (calls.MakeSemaphore thread making initial max) reply = create_semaphore s thread making initial max
outcome_of s (calls.MakeTimer thread making manual) reply = create_timer s thread making manual
outcome_of s (calls.MakeHost thread making object_type manual signaled) reply =
    create_host s thread making object_type manual signaled
outcome_of s (calls.OpenNamed thread kind mask inherit text) reply = open_named s thread kind mask inherit text
outcome_of s (calls.Duplicate thread source handle target mask inherit options) reply =
    duplicate s thread source handle target mask inherit options
outcome_of s (calls.CloseHandle thread handle) reply = close s thread handle
outcome_of s (calls.GetFlags thread handle) reply = handle_flags s thread handle
outcome_of s (calls.SetFlags thread handle mask flags) reply = set_handle_flags s thread handle mask flags
outcome_of s (calls.SetEvent thread handle) reply = set_event s thread handle
outcome_of s (calls.ResetEvent thread handle) reply = reset_event s thread handle
outcome_of s (calls.PulseEvent thread handle) reply = pulse_event s thread handle
outcome_of s (calls.ReleaseSemaphore thread handle count) reply = release_semaphore s thread handle count
outcome_of s (calls.ReleaseMutex thread handle) reply = release_mutex s thread handle
outcome_of s (calls.SignalHost id signaled) reply = signal_host s id signaled
outcome_of s (calls.SetTimer thread handle due) reply = set_timer s thread handle due
outcome_of s (calls.SetPeriodicTimer thread handle due period) reply = set_periodic_timer s thread handle due period
outcome_of s (calls.CancelTimer thread handle) reply = cancel_timer s thread handle
outcome_of s (calls.Tick now) reply = tick s now
outcome_of s (calls.WaitFor thread mode timeout handles) reply = wait s thread mode timeout handles
outcome_of s (calls.SignalAndWait thread signal timeout handle) reply = signal_and_wait s thread signal timeout handle
outcome_of s (calls.Sleep thread timeout) reply = sleep s thread timeout
outcome_of s (calls.WaitResult number) reply = wait_result s number
outcome_of s (calls.Expire number) reply = expire s number
outcome_of s (calls.Alert number) reply = alert s number
outcome_of s (calls.EndThread thread) reply = end_thread s thread
outcome_of s (calls.Exit process) reply = exit s process
outcome_of s (calls.Reap slot) reply = reap s slot (reclaim_in reply)
outcome_of s (calls.Counts id) reply = counts s id

-- whether a call takes memory, which may be wanting: a wait or a sleep only where it becomes pending, an open or a duplicate only
-- where no value was given back; a call that isn't named takes none
abbrev pub takes_memory : State → Call → Bool
takes_memory s (calls.Spawn session) = true
takes_memory s (calls.Child thread inherit) = true
takes_memory s (calls.StartThread process) = true
takes_memory s (calls.MakeEvent thread making manual set) = true
takes_memory s (calls.MakeMutex thread making owned) = true
takes_memory s (calls.MakeSemaphore thread making initial max) = true
takes_memory s (calls.MakeTimer thread making manual) = true
takes_memory s (calls.MakeHost thread making object_type manual signaled) = true
takes_memory s (calls.OpenNamed thread kind mask inherit text) = takes_place s (slice_index_or s.threads thread None)
takes_memory s (calls.Duplicate thread source handle target mask inherit options) =
    is_copy (duplicate s thread source handle target mask inherit options) && takes_place s target
takes_memory s (calls.WaitFor thread mode timeout handles) = becomes_pending (wait s thread mode timeout handles)
takes_memory s (calls.SignalAndWait thread signal timeout handle) = true
takes_memory s (calls.Sleep thread timeout) = becomes_pending (sleep s thread timeout)
takes_memory s call = false

-- the reply and the state of an outcome; a refusal changes nothing
abbrev pub final : State → Result Outcome Fault → Outcome
final s (Ok outcome) = outcome
final s (Err fault) = record { reply = Refused fault; state = s }

-- a new object is published with its descriptor
abbrev pub Publishes : Option Object → ℕ → KeeperState → KeeperState → Type 0
Publishes None slot k k' = ⊥
Publishes (Some o) slot k k' = k' ≡ published (stored k slot o.descr) slot

-- what a call does to the keeper, by its reply: a new object is published, a reap asks for its slot, and otherwise
-- slots close at most
abbrev pub KeeperAfter : Reply → State → KeeperState → KeeperState → Type 0
KeeperAfter (Made handle id) s k k' = Publishes (slice_index_or s.objects id.slot None) id.slot k k'
KeeperAfter (Reaped id outcome) s k k' = Reclaims k id.slot outcome k'
KeeperAfter (Spawned process thread) s k k' = k' ≡ k
KeeperAfter (Started thread) s k k' = k' ≡ k
KeeperAfter (Exists handle id) s k k' = k' ≡ k
KeeperAfter (Opened handle id) s k k' = k' ≡ k
KeeperAfter (Flags bits) s k k' = k' ≡ k
KeeperAfter (Pending number) s k k' = k' ≡ k
KeeperAfter (CountsAre handles waits hold) s k k' = k' ≡ k
KeeperAfter (Refused fault) s k k' = k' ≡ k
KeeperAfter reply s k k' = OnlyCloses k k'

abbrev pub is_duplicate : Call → Bool
is_duplicate (calls.Duplicate thread source handle target mask inherit options) = true
is_duplicate call = false

-- From a state and what the keeper says a call gives this reply and goes on: as the model says, or for want of memory,
-- which is answered only by a call that takes memory, and only where nothing else refuses it; it changes nothing.
pub data Step (w : Whole) (call : Call) (reply : Reply) (v : Whole) : Type 0 where
  does : final w.state (outcome_of w.state call reply) ≡ record { reply = reply; state = v.state }
      → KeeperAfter reply v.state w.keeper v.keeper → Step w call reply v
  -- a duplicate may close its source, also where it is refused after that was found
  closes : is_duplicate call ≡ true → outcome_of w.state call reply ≡ Ok (record { reply = reply; state = v.state })
      → OnlyCloses w.keeper v.keeper → Step w call reply v
  lacks : takes_memory w.state call ≡ true → is_ok (outcome_of w.state call reply) ≡ true → reply ≡ Refused fault.Memory
      → v ≡ w → Step w call reply v

-- the state after a call with this reply: want of memory leaves it, and otherwise the call comes to it
abbrev pub is_memory : Fault → Bool
is_memory fault.Memory = true
is_memory fault = false

abbrev pub is_lack : Reply → Bool
is_lack (Refused fault) = is_memory fault
is_lack reply = false

abbrev pub next : State → Call → Reply → State
next s call reply = if is_lack reply then s else (final s (outcome_of s call reply)).state

-- what a body answers, against the outcome that it has to have
abbrev pub Gives : Result Reply Fault → Whole → Whole → Result Outcome Fault → Type 0
Gives (Ok reply) old new outcome = (outcome ≡ Ok (record { reply = reply; state = new.state }))
    × KeeperAfter reply new.state old.keeper new.keeper
Gives (Err e) old new outcome = (outcome ≡ Err e) × (new ≡ old)

-- the same of a body that takes memory
abbrev pub GivesOrLacks : Result Reply Fault → Whole → Whole → Result Outcome Fault → Type 0
GivesOrLacks (Ok reply) old new outcome = Gives (Ok reply) old new outcome
GivesOrLacks (Err e) old new outcome = Refuses e outcome × (new ≡ old)

-- the same of a duplicate, and of the copy that it makes
abbrev pub Duplicates : Result Reply Fault → Whole → Whole → Result Outcome Fault → Type 0
Duplicates (Ok reply) old new outcome = (outcome ≡ Ok (record { reply = reply; state = new.state }))
    × OnlyCloses old.keeper new.keeper
Duplicates (Err e) old new outcome = Refuses e outcome × (new ≡ old)

abbrev pub Copies : Result Reply Fault → Whole → Whole → Result Outcome Fault → Type 0
Copies (Ok reply) old new outcome = (outcome ≡ Ok (record { reply = reply; state = new.state }))
    × (new.keeper ≡ old.keeper)
Copies (Err e) old new outcome = (outcome ≡ Err e) × (new ≡ old)

-- the reply of a body's answer
abbrev pub reply_of : Result Reply Fault → Reply
reply_of (Ok reply) = reply
reply_of (Err fault) = Refused fault
