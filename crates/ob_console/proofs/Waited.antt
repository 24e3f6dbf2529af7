-- A wait for the first 65 of its handles is answered as the whole: one for more than 64 is refused, and any other
-- keeps all.
use Rattle.ob_console.proofs.Cited.{◌≡◌, ℕ, ◌<◌, List, Err, arith, length, take, cases_lt, length-take-le, take_all, Result, State, Whole, Reply, ◌>>=◌, Step, Command, Asks, shortened, Point, Prints, Enacts, Evaluation}
use Rattle.ob_rights.specs.declared.fault.Fault.TheVariants as fault
use Rattle.ob_waits.specs.declared.wait.Mode.{Mode}
use Rattle.ob_manager.specs.declared.waiting.Timeout.{Timeout}
use Rattle.ob_manager.specs.declared.call.CallOf.TheVariants as calls
use Rattle.ob_manager.specs.Checks.{caller}
use Rattle.ob_manager.specs.Waiting.{wait}
use Rattle.ob_script.specs.declared.output.NotWritten.{NotWritten}

refused : (s : State) (thread : ℕ) (mode : Mode) (timeout : Timeout) (handles : List ℕ) → 64 < length handles
    → wait s thread mode timeout handles ≡ (caller s thread >>= (λ process. Err fault.Parameter))
refused s thread mode timeout handles long = search arith

beginning_waits : (s : State) (thread : ℕ) (mode : Mode) (timeout : Timeout) (handles : List ℕ)
    → wait s thread mode timeout (take 65 handles) ≡ wait s thread mode timeout handles
beginning_waits s thread mode timeout handles =
    grind (arith, cases_lt 64 (length handles), length-take-le 65 handles, refused, take_all 65 handles)

step_of_beginning : (w : Whole) (thread : ℕ) (mode : Mode) (timeout : Timeout) (handles : List ℕ) (reply : Reply)
    (v : Whole) → Step w (calls.WaitFor thread mode timeout (take 65 handles)) reply v
    → Step w (calls.WaitFor thread mode timeout handles) reply v
step_of_beginning w thread mode timeout handles reply v step = search (arith, beginning_waits)

prints_whole : (p : Point) (number : ℕ) (act : Command) (output : List ℕ) (q : Point)
    → Prints p number (shortened act) output q → Prints p number act output q
prints_whole p number (Asks (calls.WaitFor thread mode timeout handles)) output q prints =
    search (arith, step_of_beginning)
prints_whole p number act output q prints = prints

-- what is answered where the first 65 handles of a wait were read is what the line is answered
pub enacts_whole : (old : Evaluation) (number : ℕ) (act : Command) (result : Result (Unit {0}) NotWritten)
    (taken_before taken : List ℕ) (new : Evaluation) → Enacts old number (shortened act) result taken_before taken new
    → Enacts old number act result taken_before taken new
enacts_whole old number act result taken_before taken new (printed, prints, written) = search (arith, prints_whole)
