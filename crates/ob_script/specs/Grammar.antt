-- The grammar of a script: what each line is. T is a thread behind the letter t, P a process behind p, H a handle
-- behind h, W a wait behind w, K a slot behind s and S an object; Y is a type of a host's objects behind k, M a mask, N a
-- number, I one with a sign, V a moment, and D when a timer is due.
use Rattle.std.specs.Prelude.{ℕ, ◌+◌, ◌-◌, ◌==◌, ◌&&◌, ◌||◌, nat_lt, Bool, true, List, [], ◌∷◌, Option, Some, None, if◌then◌else◌, length, codes, slice_index, take}
use Rattle.std.specs.Str.{bytes_eq}
use Rattle.pin_core.specs.declared.id.Id.{Id}
use Rattle.ob_rights.specs.declared.rights.Rights.{Rights}
use Rattle.ob_waits.specs.declared.wait.Mode.{Mode}
use Rattle.ob_waits.specs.declared.wait.Mode.TheVariants.{Any, All}
use Rattle.ob_manager.specs.declared.waiting.Timeout.{Timeout}
use Rattle.ob_manager.specs.declared.waiting.Timeout.TheVariants.{Infinite, Millis, Until}
use Rattle.ob_manager.specs.Makings.{Making}
use Rattle.ob_manager.specs.Calls.{Call}
use Rattle.ob_manager.specs.declared.call.CallOf.TheVariants.{Spawn, Child, StartThread, MakeEvent, MakeMutex, MakeSemaphore, MakeTimer, MakeHost, OpenNamed, Duplicate, CloseHandle, GetFlags, SetFlags, SetEvent, ResetEvent, ReleaseSemaphore, ReleaseMutex, SignalHost, SetTimer, SetPeriodicTimer, CancelTimer, Tick, WaitFor, WaitResult, Expire, EndThread, Exit, Reap, Counts, PulseEvent, SignalAndWait, Sleep, Alert}
use Rattle.ob_script.specs.Commands.{Command, Nothing, Bad, ListNames, Asks, Pin, Unpin, ShowCard}
use Rattle.ob_script.specs.Words.{words_of, joined, begins_with, behind, number_of, signed_of, moment_of, due_of, mask_of, kind_of, labelled, id_of, type_of, either_of, are_handles, handles_in, ◌>>=◌}

-- `[KEYWORD M]`: the mask, where there is one, and the words behind it
abbrev pub some_mask : List (List ℕ) → Option (Option Rights × List (List ℕ))
some_mask [] = None
some_mask (mask ∷ words) = do
  mask ← mask_of mask
  Some (Some mask, words)

abbrev pub masked : List ℕ → List (List ℕ) → Option (Option Rights × List (List ℕ))
masked keyword words = if begins_with keyword words then some_mask (behind keyword words) else Some (None, words)

-- `name TEXT`: the text is all that is left, as it stands
abbrev pub text_of_words : List (List ℕ) → Option (List ℕ)
text_of_words [] = None
text_of_words (word ∷ words) = Some (joined (word ∷ words))

abbrev pub name_of : List (List ℕ) → Option (List ℕ)
name_of words = if begins_with (codes "name") words then text_of_words (behind (codes "name") words) else None

-- `[name TEXT]`
abbrev pub named : List (List ℕ) → Option (Option (List ℕ))
named [] = Some None
named (word ∷ words) = do
  name ← name_of (word ∷ words)
  Some (Some name)

-- `[inherit] [access M] [grant M] [name TEXT]`
abbrev pub make_of : List (List ℕ) → Option Making
make_of words = do
  access ← masked (codes "access") (behind (codes "inherit") words)
  grant ← masked (codes "grant") access.1
  name ← named grant.1
  Some (record { name = name; inherit = begins_with (codes "inherit") words; access = access.0; grant = grant.0 })

-- `VERB X`, behind its first word: a call by one word, as that is read
abbrev pub lone_of : {A : Type 0} → (List ℕ → Option A) → (A → Call) → List (List ℕ) → Option Call
lone_of read call (word ∷ []) = do
  value ← read word
  Some (call value)
lone_of read call words = None

-- `child T inherit|plain`
abbrev pub child_of : List (List ℕ) → Option Call
child_of (thread ∷ inherit ∷ []) = do
  thread ← labelled 116 thread
  inherit ← either_of (codes "plain") (codes "inherit") inherit
  Some (Child thread inherit)
child_of words = None

-- `event T auto|manual clear|set [inherit] [access M] [grant M] [name TEXT]`
abbrev pub event_of : List (List ℕ) → Option Call
event_of (thread ∷ reset ∷ state ∷ words) = do
  thread ← labelled 116 thread
  manual ← either_of (codes "auto") (codes "manual") reset
  set ← either_of (codes "clear") (codes "set") state
  make ← make_of words
  Some (MakeEvent thread make manual set)
event_of words = None

-- `mutex T free|owned [inherit] [access M] [grant M] [name TEXT]`
abbrev pub mutex_of : List (List ℕ) → Option Call
mutex_of (thread ∷ state ∷ words) = do
  thread ← labelled 116 thread
  owned ← either_of (codes "free") (codes "owned") state
  make ← make_of words
  Some (MakeMutex thread make owned)
mutex_of words = None

-- `semaphore T I I [inherit] [access M] [grant M] [name TEXT]`: the first count and the maximum
abbrev pub semaphore_of : List (List ℕ) → Option Call
semaphore_of (thread ∷ initial ∷ max ∷ words) = do
  thread ← labelled 116 thread
  initial ← signed_of initial
  max ← signed_of max
  make ← make_of words
  Some (MakeSemaphore thread make initial max)
semaphore_of words = None

-- `timer T auto|manual [inherit] [access M] [grant M] [name TEXT]`
abbrev pub timer_of : List (List ℕ) → Option Call
timer_of (thread ∷ reset ∷ words) = do
  thread ← labelled 116 thread
  manual ← either_of (codes "auto") (codes "manual") reset
  make ← make_of words
  Some (MakeTimer thread make manual)
timer_of words = None

-- with `--more` `host T Y auto|manual clear|set [inherit] [access M] [grant M] [name TEXT]`
abbrev pub host_of : List (List ℕ) → Option Call
host_of (thread ∷ object_type ∷ reset ∷ state ∷ words) = do
  thread ← labelled 116 thread
  object_type ← type_of object_type
  manual ← either_of (codes "auto") (codes "manual") reset
  signaled ← either_of (codes "clear") (codes "set") state
  make ← make_of words
  Some (MakeHost thread make object_type manual signaled)
host_of words = None

-- with `--more` `signal S clear|set`
abbrev pub signal_of : List (List ℕ) → Option Call
signal_of (object ∷ state ∷ []) = do
  id ← id_of object
  signaled ← either_of (codes "clear") (codes "set") state
  Some (SignalHost id signaled)
signal_of words = None

-- `open T event|mutex|semaphore|timer M [inherit] name TEXT`, and with `--more` `open T Y M [inherit] name TEXT`
abbrev pub open_of : Bool → List (List ℕ) → Option Call
open_of more (thread ∷ kind ∷ mask ∷ words) = do
  thread ← labelled 116 thread
  kind ← kind_of more kind
  mask ← mask_of mask
  name ← name_of (behind (codes "inherit") words)
  Some (OpenNamed thread kind mask (begins_with (codes "inherit") words) name)
open_of more words = None

-- `VERB T H`: the thread and the handle
abbrev pub handle_of : List (List ℕ) → Option (ℕ × ℕ)
handle_of (thread ∷ handle ∷ []) = do
  thread ← labelled 116 thread
  handle ← labelled 104 handle
  Some (thread, handle)
handle_of words = None

-- a call by the thread and the handle
abbrev pub handled : (ℕ → ℕ → Call) → List (List ℕ) → Option Call
handled call words = do
  named ← handle_of words
  Some (call named.0 named.1)

-- `setflags T H N N`: the mask and the flags
abbrev pub setflags_of : List (List ℕ) → Option Call
setflags_of (thread ∷ handle ∷ mask ∷ flags ∷ []) = do
  thread ← labelled 116 thread
  handle ← labelled 104 handle
  mask ← number_of mask
  flags ← number_of flags
  Some (SetFlags thread handle mask flags)
setflags_of words = None

-- `release T H I`
abbrev pub release_of : List (List ℕ) → Option Call
release_of (thread ∷ handle ∷ count ∷ []) = do
  thread ← labelled 116 thread
  handle ← labelled 104 handle
  count ← signed_of count
  Some (ReleaseSemaphore thread handle count)
release_of words = None

-- `settimer T H D`
abbrev pub settimer_of : List (List ℕ) → Option Call
settimer_of (thread ∷ handle ∷ due ∷ []) = do
  thread ← labelled 116 thread
  handle ← labelled 104 handle
  due ← due_of due
  Some (SetTimer thread handle due)
settimer_of words = None

-- with `--more` `setperiod T H D I`: the period in milliseconds
abbrev pub setperiod_of : List (List ℕ) → Option Call
setperiod_of (thread ∷ handle ∷ due ∷ period ∷ []) = do
  thread ← labelled 116 thread
  handle ← labelled 104 handle
  due ← due_of due
  period ← signed_of period
  Some (SetPeriodicTimer thread handle due period)
setperiod_of words = None

-- `P`, or `-` for no target
abbrev pub target_of : List ℕ → Option (Option ℕ)
target_of word = if bytes_eq word (codes "-") then Some None else (do
  process ← labelled 112 word
  Some (Some process))

-- `same`, which is the option 2, or `M`
abbrev pub access_of : List ℕ → Option (Rights × ℕ)
access_of word = if bytes_eq word (codes "same") then Some (record { 0 = 0 }, 2) else (do
  mask ← mask_of word
  Some (mask, 0))

-- `[close]`, which is the option 1
abbrev pub closing_of : List (List ℕ) → Option ℕ
closing_of [] = Some 0
closing_of (word ∷ []) = if bytes_eq word (codes "close") then Some 1 else None
closing_of (word ∷ more ∷ words) = None

-- `dup T P H P|- same|M [inherit] [close]`
abbrev pub dup_of : List (List ℕ) → Option Call
dup_of (thread ∷ source ∷ handle ∷ target ∷ access ∷ words) = do
  thread ← labelled 116 thread
  source ← labelled 112 source
  handle ← labelled 104 handle
  target ← target_of target
  access ← access_of access
  closing ← closing_of (behind (codes "inherit") words)
  Some (Duplicate thread source handle target access.0 (begins_with (codes "inherit") words) (access.1 + closing))
dup_of words = None

-- `any` or `all`
abbrev pub mode_of : List ℕ → Option Mode
mode_of word = if bytes_eq word (codes "any") then Some Any else
    (if bytes_eq word (codes "all") then Some All else None)

-- milliseconds, or with `--more` behind an at-sign `D`
abbrev pub limit_of : Bool → List ℕ → Option Timeout
limit_of more [] = None
limit_of more (first ∷ rest) = if more && (first == 64) then (do
  due ← due_of rest
  Some (Until due)) else (do
    millis ← number_of (first ∷ rest)
    Some (Millis millis))

-- `inf`, or such a limit
abbrev pub timeout_of : Bool → List ℕ → Option Timeout
timeout_of more word = if bytes_eq word (codes "inf") then Some Infinite else limit_of more word

-- `wait T any|all N|inf`, and then handles; with `--more` `@D` stands in the place of `N` too
abbrev pub wait_of : Bool → List (List ℕ) → Option Call
wait_of more (thread ∷ mode ∷ timeout ∷ words) = do
  thread ← labelled 116 thread
  mode ← mode_of mode
  timeout ← timeout_of more timeout
  if are_handles words then Some (WaitFor thread mode timeout (handles_in words)) else None
wait_of more words = None

-- with `--more` `signalwait T H N|inf|@D H`: the object that is signaled, and the one that is waited for
abbrev pub signalwait_of : List (List ℕ) → Option Call
signalwait_of (thread ∷ signal ∷ timeout ∷ handle ∷ []) = do
  thread ← labelled 116 thread
  signal ← labelled 104 signal
  timeout ← timeout_of true timeout
  handle ← labelled 104 handle
  Some (SignalAndWait thread signal timeout handle)
signalwait_of words = None

-- with `--more` `sleep T N|inf|@D`
abbrev pub sleep_of : List (List ℕ) → Option Call
sleep_of (thread ∷ timeout ∷ []) = do
  thread ← labelled 116 thread
  timeout ← timeout_of true timeout
  Some (Sleep thread timeout)
sleep_of words = None

-- `VERB S`: the object
abbrev pub object_of : List (List ℕ) → Option Id
object_of (object ∷ []) = id_of object
object_of words = None

-- what the reader is asked for with the object
abbrev pub on_object : (Id → Command) → Option Id → Command
on_object command None = Bad
on_object command (Some id) = command id

-- a call is asked for, if the words behind its verb are its own
abbrev pub asked : Option Call → Command
asked None = Bad
asked (Some call) = Asks call

-- what the words of a line are, where the lines that `--more` adds are read or aren't
abbrev pub command_of_words : Bool → List (List ℕ) → Command
command_of_words more [] = Bad
command_of_words more (verb ∷ words) =
    if bytes_eq verb (codes "close") then asked (handled CloseHandle words)
    else (if bytes_eq verb (codes "set") then asked (handled SetEvent words)
    else (if bytes_eq verb (codes "wait") then asked (wait_of more words)
    else (if bytes_eq verb (codes "count") then asked (lone_of id_of Counts words)
    else (if bytes_eq verb (codes "event") then asked (event_of words)
    else (if bytes_eq verb (codes "reset") then asked (handled ResetEvent words)
    else (if bytes_eq verb (codes "release") then asked (release_of words)
    else (if bytes_eq verb (codes "unlock") then asked (handled ReleaseMutex words)
    else (if bytes_eq verb (codes "open") then asked (open_of more words)
    else (if bytes_eq verb (codes "dup") then asked (dup_of words)
    else (if bytes_eq verb (codes "result") then asked (lone_of (labelled 119) WaitResult words)
    else (if bytes_eq verb (codes "mutex") then asked (mutex_of words)
    else (if bytes_eq verb (codes "semaphore") then asked (semaphore_of words)
    else (if bytes_eq verb (codes "reap") then asked (lone_of (labelled 115) Reap words)
    else (if bytes_eq verb (codes "thread") then asked (lone_of (labelled 112) StartThread words)
    else (if bytes_eq verb (codes "spawn") then asked (lone_of number_of Spawn words)
    else (if bytes_eq verb (codes "child") then asked (child_of words)
    else (if bytes_eq verb (codes "expire") then asked (lone_of (labelled 119) Expire words)
    else (if bytes_eq verb (codes "endthread") then asked (lone_of (labelled 116) EndThread words)
    else (if bytes_eq verb (codes "exit") then asked (lone_of (labelled 112) Exit words)
    else (if bytes_eq verb (codes "flags") then asked (handled GetFlags words)
    else (if bytes_eq verb (codes "setflags") then asked (setflags_of words)
    else (if bytes_eq verb (codes "timer") then asked (timer_of words)
    else (if bytes_eq verb (codes "settimer") then asked (settimer_of words)
    else (if bytes_eq verb (codes "cancel") then asked (handled CancelTimer words)
    else (if bytes_eq verb (codes "tick") then asked (lone_of moment_of Tick words)
    else (if bytes_eq verb (codes "pin") then on_object Pin (object_of words)
    else (if bytes_eq verb (codes "unpin") then on_object Unpin (object_of words)
    else (if bytes_eq verb (codes "card") then on_object ShowCard (object_of words)
    else (if more && bytes_eq verb (codes "host") then asked (host_of words)
    else (if more && bytes_eq verb (codes "signal") then asked (signal_of words)
    else (if more && bytes_eq verb (codes "pulse") then asked (handled PulseEvent words)
    else (if more && bytes_eq verb (codes "signalwait") then asked (signalwait_of words)
    else (if more && bytes_eq verb (codes "sleep") then asked (sleep_of words)
    else (if more && bytes_eq verb (codes "alert") then asked (lone_of (labelled 119) Alert words)
    else (if more && bytes_eq verb (codes "setperiod") then asked (setperiod_of words)
    else Bad)))))))))))))))))))))))))))))))))))

-- the text of a line: one carriage return at its end is dropped
abbrev pub text_of : List ℕ → List ℕ
text_of line = if slice_index line (length line - 1) == 13 then take (length line - 1) line else line

-- A text of more than 4,096 bytes is bad; an empty text and a text that begins with # are nothing; `dir` lists names.
abbrev pub command_of_text : Bool → List ℕ → Command
command_of_text more text =
    if nat_lt 4096 (length text) then Bad
    else (if (length text == 0) || (slice_index text 0 == 35) then Nothing
    else (if bytes_eq text (codes "dir") then ListNames
    else command_of_words more (words_of text)))

abbrev pub command_of : Bool → List ℕ → Command
command_of more line = command_of_text more (text_of line)
