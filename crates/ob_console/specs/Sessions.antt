-- A console between two blocks of its input.
use Rattle.std.specs.Prelude.{◌≡◌, ◌<◌, ℕ, List, [], ◌++◌, Option, Some, Result, Ok, Err, length}
use Rattle.std.specs.List.{concat}
use Rattle.ob_script.specs.declared.output.NotWritten.{NotWritten}
use Rattle.ob_script.specs.Pending.{Pending, IsWritten}
use Rattle.ob_console.specs.Runs.{Point, Prints, Run, Splits, AnswersLines, AnswersPart, AnswersTo}
use Rattle.ob_console.specs.declared.script.RunFault.{RunFault}
use Rattle.ob_console.specs.declared.script.RunFault.TheVariants.{Memory, Read, Write}
use Rattle.ob_script.specs.Commands.{Command}
use Rattle.ob_script.specs.PartialLines.{capped}
use Rattle.ob_script.specs.Devices.{Writes, Begins}

-- what an evaluator has
pub record Evaluation : Type 0 where
  pub point : Point  -- the manager's state, and what the reader holds
  pub pending : Pending  -- answers that are not yet written
  pub lines : ℕ  -- how many lines have ended

-- what the line of this number is was done, and what that prints is written or pending, or its beginning is written
-- where the sink failed
abbrev pub Enacts : Evaluation → ℕ → Command → Result (Unit {0}) NotWritten → List ℕ → List ℕ → Evaluation → Type 0
Enacts old number act result taken_before taken new =
    (printed : List ℕ) × Prints old.point number act printed new.point
    × IsWritten result taken_before taken (old.pending.bytes ++ printed) new.pending.bytes

pub record ConsoleState : Type 0 where
  pub point : Point  -- the manager's state, and what the reader holds
  pub pending : Pending  -- answers that are not yet written
  pub held : Option (List ℕ)  -- the beginning of the next line
  pub lines : ℕ  -- how many lines have ended

-- from this point, where a slot may have a pin, the console has answered the complete lines of this input with this
-- output, and holds what came of the next
pub record Session (first : Point) (input output : List ℕ) (console : ConsoleState) : Type 0 where
  pub lines : List (List ℕ)
  pub rest : List ℕ
  pub outputs : List (List ℕ)
  pub splits : Splits input lines rest
  pub pins : 0 < first.whole.keeper.shape.max_pins
  pub run : Run first 1 lines outputs console.point
  pub whole : output ≡ concat outputs
  pub counted : console.lines ≡ length lines
  pub held : console.held ≡ capped rest

-- no line has come, nothing is pending, and a slot may have a pin
pub record IsReady (console : ConsoleState) : Type 0 where
  pub pins : 0 < console.point.whole.keeper.shape.max_pins
  pub pending : console.pending.bytes ≡ []
  pub held : console.held ≡ Some []
  pub lines : console.lines ≡ 0

-- from the one console to the other these bytes came, and these were printed
abbrev pub Advances : ConsoleState → List ℕ → List ℕ → ConsoleState → Type 0
Advances old bytes printed new = (first : Point) (input output : List ℕ) → Session first input output old
    → Session first (input ++ bytes) (output ++ printed) new

-- the console took the front of a block, up to this rest, and what it printed is written or pending
pub record IsFed (old new : ConsoleState) (block rest taken_before taken : List ℕ) : Type 0 where
  pub front : List ℕ
  pub printed : List ℕ
  pub whole : front ++ rest ≡ block
  pub advances : Advances old front printed new
  pub written : Writes taken_before taken (old.pending.bytes ++ printed) new.pending.bytes

-- the sink failed while the console took a block: the beginning of what it printed for the front of the block is
-- written
pub record IsCutShort (old new : ConsoleState) (block taken_before taken : List ℕ) : Type 0 where
  pub front : List ℕ
  pub rest : List ℕ
  pub printed : List ℕ
  pub whole : front ++ rest ≡ block
  pub advances : Advances old front printed new
  pub written : Begins taken_before taken (old.pending.bytes ++ printed)

-- where the input ends here, these bytes are what is still printed, and the run ends there
abbrev pub Finishes : ConsoleState → List ℕ → Point → Type 0
Finishes console printed last = (first : Point) (input output : List ℕ) → Session first input output console
    → AnswersTo first input (output ++ printed) last

-- how the console's run ended, from the one point to the other
abbrev pub Ends : Result (Unit {0}) RunFault → Point → List ℕ → List ℕ → Point → Type 0
Ends (Ok unit) first input output last = AnswersTo first input output last
Ends (Err Read) first input output last = AnswersLines first input output
Ends (Err Write) first input output last = AnswersPart first input output
Ends (Err Memory) first input output last = ⊥
