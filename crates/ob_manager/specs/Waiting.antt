-- Waiting for objects, and what becomes of waits.
use Rattle.std.specs.Prelude.{ℕ, ◌+◌, ◌*◌, ◌/◌, ◌==◌, ◌&&◌, ◌||◌, nat_le, nat_lt, Bool, true, false, not, List, [], ◌∷◌, length, map, Option, Some, None, Result, Ok, Err, if◌then◌else◌, slice_index_or}
use Rattle.std.specs.List.{list_any, list_all}
use Rattle.arrayvec.specs.ArrayVec.{ArrayVec}
use Rattle.pin_core.specs.Holds.{same_id}
use Rattle.pin_core.specs.declared.id.Id.{Id}
use Rattle.ob_rights.specs.declared.fault.Fault.{Fault}
use Rattle.ob_rights.specs.declared.fault.Fault.TheVariants as fault
use Rattle.ob_rights.specs.Rights.{within}
use Rattle.ob_body.specs.declared.body.Body.{Body}
use Rattle.ob_body.specs.declared.body.Body.TheVariants as body
use Rattle.ob_body.specs.Body.{after_post, after_set, after_unlock, post_answer, unlock_answer}
use Rattle.ob_tables.specs.declared.entry.Entry.{Entry}
use Rattle.ob_waits.specs.declared.wait.Mode.{Mode}
use Rattle.ob_waits.specs.declared.wait.Mode.TheVariants.{Any, All}
use Rattle.ob_waits.specs.declared.wait.WaitState.{WaitState}
use Rattle.ob_waits.specs.declared.wait.WaitState.TheVariants.{Pending, Answered}
use Rattle.ob_waits.specs.CountedBodies.{slot_room}
use Rattle.ob_waits.specs.Waits.{code_of, is_pending, list_ready, state_at}
use Rattle.ob_manager.specs.declared.reply.Reply.{Reply}
use Rattle.ob_manager.specs.declared.reply.Reply.TheVariants as reply
use Rattle.ob_manager.specs.declared.waiting.Timeout.{Timeout}
use Rattle.ob_manager.specs.declared.waiting.Timeout.TheVariants.{Zero, Infinite, Millis, Until}
use Rattle.ob_tables.specs.declared.limits.Limits.{Limits}
use Rattle.ob_store.specs.State.{State, settled}
use Rattle.ob_store.specs.Waiting.{are_waits_given, cut_short, met, open_waits, taken_at, wait_name, wait_number, with_answer, with_taken, with_wait, without_wait}
use Rattle.ob_manager.specs.Outcomes.{Outcome, ◌>>=◌, or_refuse, refuse_if}
use Rattle.ob_manager.specs.Checks.{caller, found, granted}
use Rattle.ob_manager.specs.Signaling.{modify_state}
use Rattle.ob_manager.specs.Timing.{moment_of}

-- the right SYNCHRONIZE
abbrev pub synchronize : ℕ
synchronize = 0x100000

-- whether something stands twice in a list
abbrev pub has_twice : {A : Type 0} → (A → A → Bool) → List A → Bool
has_twice same [] = false
has_twice same (x ∷ xs) = list_any (same x) xs || has_twice same xs

-- whether two handles are one: their two lowest bits don't count
abbrev pub same_handle : ℕ → ℕ → Bool
same_handle a b = a / 4 == b / 4

-- whether a handle may stand twice in a wait: in one for any, where the manager was made so
abbrev pub may_repeat : Limits → Mode → Bool
may_repeat limits Any = limits.repeats
may_repeat limits All = false

-- whether a list of handles is none to wait for: empty, past 64, or with a handle twice where none may be
abbrev pub is_misshapen : Bool → List ℕ → Bool
is_misshapen repeats handles =
    length handles == 0 || (nat_lt 64 (length handles) || (has_twice same_handle handles && not repeats))

-- the entries of handles, else 6
abbrev pub all_found : State → ℕ → List ℕ → Result (List Entry) Fault
all_found s process [] = Ok []
all_found s process (handle ∷ handles) = do
  entry ← found s process handle
  entries ← all_found s process handles
  Ok (entry ∷ entries)

abbrev pub lacks_synchronize : Entry → Bool
lacks_synchronize entry = not (within synchronize entry.rights.0)

abbrev pub id_of : Entry → Id
id_of entry = entry.id

-- the objects of handles: 6 where there is no such handle, and where each is there 5 without SYNCHRONIZE
abbrev pub objects_of : State → ℕ → List ℕ → Result (List Id) Fault
objects_of s process handles = do
  entries ← all_found s process handles
  _ ← refuse_if (list_any lacks_synchronize entries) fault.Access
  Ok (map id_of entries)

-- the objects that a body collected
abbrev pub collected : Result (Unit {0}) Fault → ArrayVec Id → Result (List Id) Fault
collected (Ok done) ids = Ok ids.items
collected (Err e) ids = Err e

-- whether a wait for all is for one object twice
abbrev pub is_for_one_twice : Mode → List Id → Bool
is_for_one_twice Any ids = false
is_for_one_twice All ids = has_twice same_id ids

-- whether no object is a mutex that the thread owns as often as the limit lets
abbrev pub have_room : State → ℕ → List Id → Bool
have_room s thread ids = list_all (λ (id : Id). slot_room s.limits.max_recursion thread
    (slice_index_or s.bodies id.slot None)) ids

-- whether a wait never becomes pending: it may not last, or until a moment that isn't after now
abbrev pub is_zero : ℕ → Timeout → Bool
is_zero now Zero = true
is_zero now Infinite = false
is_zero now (Millis n) = n == 0
is_zero now (Until due) = nat_le (moment_of now due) now

-- the deadline of a wait that becomes pending: 4,294,967,295 milliseconds are none
abbrev pub deadline_in : ℕ → Timeout → Option ℕ
deadline_in now Zero = None
deadline_in now Infinite = None
deadline_in now (Millis n) = if nat_lt n 4294967295 then Some (now + 10000 * n) else None
deadline_in now (Until due) = if nat_lt now (moment_of now due) then Some (moment_of now due) else None

-- until when a wait lasts: what never becomes pending has no deadline
abbrev pub lasts_until : ℕ → Timeout → Option ℕ
lasts_until now timeout = if is_zero now timeout then None else deadline_in now timeout

-- 1450 where a wait would become pending and no number is left for it
abbrev pub pending : State → ℕ → Mode → Option ℕ → List Id → Result Outcome Fault
pending s thread mode deadline ids = do
  _ ← refuse_if (are_waits_given s) fault.Limit
  Ok (record {
    reply = reply.Pending (wait_name s thread (length (open_waits s)));
    state = settled (with_wait s thread mode ids deadline);
  })

-- what a wait comes to that isn't satisfied now
abbrev pub unsatisfied : State → ℕ → Mode → Timeout → List Id → Result Outcome Fault
unsatisfied s thread mode timeout ids =
    if is_zero s.clock timeout then Ok (record { reply = reply.Code 258; state = s }) else pending s thread mode
    (deadline_in s.clock timeout) ids

abbrev pub satisfied : State → ℕ → Mode → List Id → Result Outcome Fault
satisfied s thread mode ids = Ok (record {
  reply = reply.Code (code_of mode thread s.bodies ids);
  state = settled (with_taken s thread mode ids);
})

-- a wait for objects: no object twice in a wait for all, and room for each mutex; then what is ready is satisfied
abbrev pub wait_on : State → ℕ → Mode → Timeout → List Id → Result Outcome Fault
wait_on s thread mode timeout ids = do
  _ ← refuse_if (is_for_one_twice mode ids) fault.Parameter
  _ ← refuse_if (not (have_room s thread ids)) fault.Limit
  if list_ready mode thread s.bodies ids then satisfied s thread mode ids else unsatisfied s thread mode timeout ids

-- the caller, the list, then each handle and its right
abbrev pub wait : State → ℕ → Mode → Timeout → List ℕ → Result Outcome Fault
wait s thread mode timeout handles = do
  process ← caller s thread
  _ ← refuse_if (is_misshapen (may_repeat s.limits mode) handles) fault.Parameter
  ids ← objects_of s process handles
  wait_on s thread mode timeout ids

-- a wait for nothing lasts until its time is up
abbrev pub sleep : State → ℕ → Timeout → Result Outcome Fault
sleep s thread timeout = do
  process ← caller s thread
  wait_on s thread Any timeout []

-- whether a wait becomes pending: only then it takes memory
abbrev pub is_pending_reply : Reply → Bool
is_pending_reply (reply.Pending number) = true
is_pending_reply other = false

abbrev pub becomes_pending : Result Outcome Fault → Bool
becomes_pending (Ok outcome) = is_pending_reply outcome.reply
becomes_pending (Err e) = false

-- what a thread gets of its wait: its answer, with which it is over, or that it is pending
abbrev pub shown : State → ℕ → WaitState → Outcome
shown s wait Pending = record { reply = reply.Pending wait; state = s }
shown s wait (Answered code) = record {
  reply = reply.Code code;
  state = settled (without_wait s (wait_number s wait));
}

abbrev pub wait_result : State → ℕ → Result Outcome Fault
wait_result s wait = do
  stands ← or_refuse (state_at (slice_index_or s.waits (wait_number s wait) None)) fault.Parameter
  Ok (shown s wait stands)

-- a pending wait is answered with 258
abbrev pub expire : State → ℕ → Result Outcome Fault
expire s wait = do
  _ ← refuse_if (not (is_pending (slice_index_or s.waits (wait_number s wait) None))) fault.Parameter
  Ok (record { reply = reply.Expired wait; state = settled (with_answer s (wait_number s wait) 258) })

-- or with 192
abbrev pub alert : State → ℕ → Result Outcome Fault
alert s wait = do
  _ ← refuse_if (not (is_pending (slice_index_or s.waits (wait_number s wait) None))) fault.Parameter
  Ok (record { reply = reply.Done; state = settled (with_answer s (wait_number s wait) 192) })

-- what a signal makes of the object of a handle, as the call of its kind does: an event is set and a semaphore raised by
-- 1, for which MODIFY_STATE is needed, and a mutex released; 6 for another kind
abbrev pub after_signal : ℕ → Entry → Option Body → Result Body Fault
after_signal thread entry (Some (body.Event e)) = do
  _ ← granted modify_state entry
  Ok (after_set (body.Event e))
after_signal thread entry (Some (body.Semaphore s)) = do
  _ ← granted modify_state entry
  _ ← post_answer 1 (body.Semaphore s)
  Ok (after_post 1 (body.Semaphore s))
after_signal thread entry (Some (body.Mutex m)) = do
  _ ← unlock_answer thread (body.Mutex m)
  Ok (after_unlock thread (body.Mutex m))
after_signal thread entry other = Err fault.Handle

-- what a body became, or why not
abbrev pub signaled : Result (Unit {0}) Fault → Body → Result Body Fault
signaled (Ok done) body = Ok body
signaled (Err e) body = Err e

-- what such a wait is answered with, or that it is pending
abbrev pub told_at : ℕ → Option WaitState → Reply
told_at name (Some (Answered code)) = reply.Code code
told_at name other = reply.Signaled name

-- the wait stands, behind those that stood before, as an object gets the body by which it is signaled; it takes a number
-- though it is answered at once
abbrev pub give_and_wait : State → ℕ → Timeout → Id → Id → Body → Result Outcome Fault
give_and_wait s thread timeout waited signaled after = do
  _ ← refuse_if (are_waits_given s) fault.Limit
  let number = length (open_waits s)
  let left = cut_short (is_zero s.clock timeout)
      (met s thread waited (lasts_until s.clock timeout) signaled after) number
  Ok (record {
    reply = told_at (wait_name s thread number) (state_at (slice_index_or left.waits number None));
    state = taken_at left number;
  })

-- both handles and all that may refuse are looked at before the signal is given
abbrev pub signal_and_wait : State → ℕ → ℕ → Timeout → ℕ → Result Outcome Fault
signal_and_wait s thread signal timeout handle = do
  process ← caller s thread
  signaled ← found s process signal
  waited ← found s process handle
  _ ← refuse_if (lacks_synchronize waited) fault.Access
  after ← after_signal thread signaled (slice_index_or s.bodies signaled.id.slot None)
  _ ← refuse_if (not (have_room s thread (waited.id ∷ []))) fault.Limit
  give_and_wait s thread timeout waited.id signaled.id after
