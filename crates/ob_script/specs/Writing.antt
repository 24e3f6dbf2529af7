-- The line that asks for a call.
use Rattle.std.specs.Prelude.{ℕ, ◌-◌, ◌==◌, ◌&&◌, nat_le, nat_lt, Bool, true, false, not, List, [], ◌∷◌, ◌++◌}
use Rattle.std.specs.Prelude.{Option, Some, None, if◌then◌else◌, length, codes, slice_index, decimal, map}
use Rattle.std.specs.Fmt.{digits, signed_decimal}
use Rattle.std.specs.List.{list_all, flat_map}
use Rattle.pin_core.specs.declared.id.Id.{Id}
use Rattle.ob_rights.specs.declared.kind.Kind.{Kind}
use Rattle.ob_rights.specs.declared.kind.Kind.TheVariants.{Event, Mutex, Semaphore, Timer, Host}
use Rattle.ob_rights.specs.declared.rights.Rights.{Rights}
use Rattle.ob_waits.specs.declared.wait.Mode.{Mode}
use Rattle.ob_waits.specs.declared.wait.Mode.TheVariants.{Any, All}
use Rattle.ob_manager.specs.declared.waiting.Timeout.{Timeout}
use Rattle.ob_manager.specs.declared.waiting.Timeout.TheVariants.{Zero, Infinite, Millis, Until}
use Rattle.ob_manager.specs.Makings.{Making}
use Rattle.ob_manager.specs.Calls.{Call}
use Rattle.ob_manager.specs.Copying.{closes, keeps_rights}
use Rattle.ob_manager.specs.declared.call.CallOf.TheVariants as calls
use Rattle.ob_script.specs.Words.{joined}

-- a number behind a letter
abbrev pub label : ℕ → ℕ → List ℕ
label letter number = letter ∷ decimal number

-- an object: its slot behind the letter s, and its generation behind a full stop
abbrev pub id_word : Id → List ℕ
id_word id = label 115 id.slot ++ label 46 id.generation

-- a mask: `0x`, and its digits in lower case, without leading zeros
abbrev pub mask_word : Rights → List ℕ
mask_word mask = 48 ∷ 120 ∷ digits 16 false mask.0

-- the second of two keywords where something is so, else the first
abbrev pub either_word : List ℕ → List ℕ → Bool → List ℕ
either_word first second is_so = if is_so then second else first

-- a keyword, where something is so
abbrev pub word_if : Bool → List ℕ → List (List ℕ)
word_if is_so word = if is_so then word ∷ [] else []

-- a keyword and a mask, where there is one
abbrev pub mask_words : List ℕ → Option Rights → List (List ℕ)
mask_words keyword None = []
mask_words keyword (Some mask) = keyword ∷ mask_word mask ∷ []

-- `name`, and the text that is all that is left
abbrev pub text_words : List ℕ → List (List ℕ)
text_words text = codes "name" ∷ text ∷ []

abbrev pub name_words : Option (List ℕ) → List (List ℕ)
name_words None = []
name_words (Some text) = text_words text

-- what a create asks for
abbrev pub make_words : Making → List (List ℕ)
make_words make = word_if make.inherit (codes "inherit")
    ++ (mask_words (codes "access") make.access ++ (mask_words (codes "grant") make.grant ++ name_words make.name))

abbrev pub kind_word : Kind → List ℕ
kind_word Event = codes "event"
kind_word Mutex = codes "mutex"
kind_word Semaphore = codes "semaphore"
kind_word Timer = codes "timer"
kind_word (Host object_type) = label 107 object_type

abbrev pub mode_word : Mode → List ℕ
mode_word Any = codes "any"
mode_word All = codes "all"

abbrev pub timeout_word : Timeout → List ℕ
timeout_word Zero = decimal 0
timeout_word Infinite = codes "inf"
timeout_word (Millis millis) = decimal millis
timeout_word (Until due) = 64 ∷ signed_decimal due

abbrev pub target_word : Option ℕ → List ℕ
target_word None = codes "-"
target_word (Some process) = label 112 process

abbrev pub access_word : ℕ → Rights → List ℕ
access_word options mask = if keeps_rights options then codes "same" else mask_word mask

-- a verb with the thread and the handle, and words behind
abbrev pub handle_words : List ℕ → ℕ → ℕ → List (List ℕ) → List (List ℕ)
handle_words verb thread handle words = verb ∷ label 116 thread ∷ label 104 handle ∷ words

-- the words of the line, of which the last may be a name with spaces in it
abbrev pub words_for : Call → List (List ℕ)
words_for (calls.Spawn session) = codes "spawn" ∷ decimal session ∷ []
words_for (calls.Child thread inherit) =
    codes "child" ∷ label 116 thread ∷ either_word (codes "plain") (codes "inherit") inherit ∷ []
words_for (calls.StartThread process) = codes "thread" ∷ label 112 process ∷ []
words_for (calls.MakeEvent thread make manual set) =
    codes "event" ∷ label 116 thread ∷ either_word (codes "auto") (codes "manual") manual
    ∷ either_word (codes "clear") (codes "set") set ∷ make_words make
words_for (calls.MakeMutex thread make owned) =
    codes "mutex" ∷ label 116 thread ∷ either_word (codes "free") (codes "owned") owned ∷ make_words make
words_for (calls.MakeSemaphore thread make initial max) =
    codes "semaphore" ∷ label 116 thread ∷ signed_decimal initial ∷ signed_decimal max ∷ make_words make
words_for (calls.MakeTimer thread make manual) =
    codes "timer" ∷ label 116 thread ∷ either_word (codes "auto") (codes "manual") manual ∷ make_words make
words_for (calls.MakeHost thread make object_type manual signaled) =
    codes "host" ∷ label 116 thread ∷ label 107 object_type ∷ either_word (codes "auto") (codes "manual") manual
    ∷ either_word (codes "clear") (codes "set") signaled ∷ make_words make
words_for (calls.OpenNamed thread kind mask inherit text) =
    codes "open" ∷ label 116 thread ∷ kind_word kind ∷ mask_word mask
    ∷ (word_if inherit (codes "inherit") ++ text_words text)
words_for (calls.Duplicate thread source handle target mask inherit options) =
    codes "dup" ∷ label 116 thread ∷ label 112 source ∷ label 104 handle ∷ target_word target
    ∷ access_word options mask
    ∷ (word_if inherit (codes "inherit") ++ word_if (closes options) (codes "close"))
words_for (calls.CloseHandle thread handle) = handle_words (codes "close") thread handle []
words_for (calls.GetFlags thread handle) = handle_words (codes "flags") thread handle []
words_for (calls.SetFlags thread handle mask flags) =
    handle_words (codes "setflags") thread handle (decimal mask ∷ decimal flags ∷ [])
words_for (calls.SetEvent thread handle) = handle_words (codes "set") thread handle []
words_for (calls.ResetEvent thread handle) = handle_words (codes "reset") thread handle []
words_for (calls.PulseEvent thread handle) = handle_words (codes "pulse") thread handle []
words_for (calls.ReleaseSemaphore thread handle count) =
    handle_words (codes "release") thread handle (signed_decimal count ∷ [])
words_for (calls.ReleaseMutex thread handle) = handle_words (codes "unlock") thread handle []
words_for (calls.SignalHost id signaled) =
    codes "signal" ∷ id_word id ∷ either_word (codes "clear") (codes "set") signaled ∷ []
words_for (calls.SetTimer thread handle due) =
    handle_words (codes "settimer") thread handle (signed_decimal due ∷ [])
words_for (calls.SetPeriodicTimer thread handle due period) =
    handle_words (codes "setperiod") thread handle (signed_decimal due ∷ signed_decimal period ∷ [])
words_for (calls.CancelTimer thread handle) = handle_words (codes "cancel") thread handle []
words_for (calls.Tick now) = codes "tick" ∷ decimal now ∷ []
words_for (calls.WaitFor thread mode timeout handles) =
    codes "wait" ∷ label 116 thread ∷ mode_word mode ∷ timeout_word timeout ∷ map (label 104) handles
words_for (calls.SignalAndWait thread signal timeout handle) =
    handle_words (codes "signalwait") thread signal (timeout_word timeout ∷ label 104 handle ∷ [])
words_for (calls.Sleep thread timeout) = codes "sleep" ∷ label 116 thread ∷ timeout_word timeout ∷ []
words_for (calls.WaitResult number) = codes "result" ∷ label 119 number ∷ []
words_for (calls.Expire number) = codes "expire" ∷ label 119 number ∷ []
words_for (calls.Alert number) = codes "alert" ∷ label 119 number ∷ []
words_for (calls.EndThread thread) = codes "endthread" ∷ label 116 thread ∷ []
words_for (calls.Exit process) = codes "exit" ∷ label 112 process ∷ []
words_for (calls.Reap slot) = codes "reap" ∷ label 115 slot ∷ []
words_for (calls.Counts id) = codes "count" ∷ id_word id ∷ []

-- some words, each behind a space
abbrev pub behind_spaces : List (List ℕ) → List ℕ
behind_spaces words = flat_map (λ word. 32 ∷ word) words

-- the same as text: the first word, and the others each behind a space
abbrev pub said : List (List ℕ) → List ℕ
said [] = []
said (word ∷ words) = word ++ behind_spaces words

-- the text of the line
abbrev pub text_for : Call → List ℕ
text_for call = joined (words_for call)

-- one more carriage return behind a text that ends with one, since a line drops one
abbrev pub ended : List ℕ → List ℕ
ended text = if slice_index text (length text - 1) == 13 then text ++ 13 ∷ [] else text

-- Whether a line can say what a call asks for: no line has options of a duplicate beyond 3, or a moment past the last.
-- Such calls are refused.
abbrev pub can_be_said : Call → Bool
can_be_said (calls.Duplicate thread source handle target mask inherit options) = nat_lt options 4
can_be_said (calls.Tick now) = nat_le now 9223372036854775807
can_be_said call = true

-- Whether a text is that of a line: it has no line feed, and 4,096 bytes at most.
abbrev pub is_line : List ℕ → Bool
is_line text = not (nat_lt 4096 (length text)) && list_all (λ byte. not (byte == 10)) text

-- The line that asks for a call, where there is one: not for a name with a line feed, nor for what takes too long a
-- line.
abbrev pub line_of : Call → Option (List ℕ)
line_of call = if can_be_said call && is_line (text_for call) then Some (ended (text_for call)) else None

-- The call as a line asks for it. It is answered alike: a duplicate with the rights of its source has no use for a
-- mask, and a wait of no time is one of 0 milliseconds.
abbrev pub as_said : Call → Call
as_said (calls.Duplicate thread source handle target mask inherit options) =
    calls.Duplicate thread source handle target
    (if keeps_rights options then record { 0 = 0 } else mask) inherit options
as_said (calls.WaitFor thread mode Zero handles) = calls.WaitFor thread mode (Millis 0) handles
as_said (calls.SignalAndWait thread signal Zero handle) = calls.SignalAndWait thread signal (Millis 0) handle
as_said (calls.Sleep thread Zero) = calls.Sleep thread (Millis 0)
as_said call = call
