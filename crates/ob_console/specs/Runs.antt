-- A run of a script: the lines of an input, and what is printed for them.
use Rattle.std.specs.Prelude.{◌≡◌, ◌≢◌, ℕ, ◌+◌, Bool, List, [], ◌∷◌, ◌++◌, All, Result, Ok, Err}
use Rattle.std.specs.List.{concat, flat_map}
use Rattle.pin_core.specs.declared.id.Id.{Id}
use Rattle.pin_core.specs.declared.descr.Descr.{Descr}
use Rattle.pin_words.specs.declared.fault.PinFault.{PinFault}
use Rattle.pin_words.specs.declared.view.Look.{Look}
use Rattle.pin_words.specs.declared.view.ReaderView.{ReaderView}
use Rattle.pin_words.specs.Keepers.{IsFresh, IsFreshWith, KeeperState, ReclaimsFound}
use Rattle.ob_tables.specs.declared.limits.Limits.{Limits}
use Rattle.ob_store.specs.State.{Whole, opening, shape_of}
use Rattle.ob_store.specs.Directory.{directory_of}
use Rattle.ob_manager.specs.Calls.{Call}
use Rattle.ob_manager.specs.declared.reply.Reply.{Reply}
use Rattle.ob_manager.specs.declared.reply.Reply.TheVariants.{Reaped}
use Rattle.ob_manager.specs.Reaping.{IfReap, IfReaped}
use Rattle.ob_manager.specs.Steps.{Step}
use Rattle.ob_console.specs.Pinning.{Pins, SparesHeld, Unpins, shown_of}
use Rattle.ob_script.specs.Commands.{Command, Nothing, Bad, ListNames, Asks, Pin, Unpin, ShowCard}
use Rattle.ob_console.specs.declared.script.RunFault.{RunFault}
use Rattle.ob_console.specs.declared.script.RunFault.TheVariants.{Memory, Read, Write}
use Rattle.ob_script.specs.Grammar.{command_of}
use Rattle.ob_script.specs.Printed.{printed, printed_card, printed_names, printed_pin, printed_unpin, bad_line, line_end}

-- whether the lines that `--more` adds are read, the state with what the keeper says, the copies that the reader holds,
-- and the words that it found, newest first
pub record Point : Type 0 where
  pub more : Bool
  pub whole : Whole
  pub held : List Id
  pub looks : List Look

abbrev pub point : Bool → Whole → ReaderView → Point
point more whole reader = record { more = more; whole = whole; held = reader.held; looks = reader.looks }

-- before any line: nothing was asked of the manager and of its keeper, and nothing is held
pub record IsOpening (more : Bool) (limits : Limits) (p : Point) : Type 0 where
  pub lines : p.more ≡ more
  pub state : p.whole.state ≡ opening limits
  pub keeper : IsFresh p.whole.keeper (shape_of limits)
  pub held : p.held ≡ []

-- before any line of a script that goes on over this manager: its keeper begins with the slots, and nothing is held
pub record Reopens (more : Bool) (before : Whole) (p : Point) : Type 0 where
  pub lines : p.more ≡ more
  pub state : p.whole.state ≡ before.state
  pub keeper : IsFreshWith p.whole.keeper (shape_of before.state.limits) before.keeper.slots
  pub held : p.held ≡ []

-- a slot that is reaped is not taken back while something is held there
abbrev pub Spares : List Id → Call → Reply → Type 0
Spares held call reply = IfReap call (λ slot. IfReaped reply (SparesHeld held slot))

-- the keeper found the word of the slot that the reply tells of: just pins in it held the slot
abbrev pub IsLooked : KeeperState → Reply → KeeperState → Type 0
IsLooked k (Reaped id outcome) k' = ReclaimsFound k id.slot outcome k'
IsLooked k reply k' = Unit {0}

abbrev pub Looks : KeeperState → Call → Reply → KeeperState → Type 0
Looks k call reply k' = IfReap call (λ slot. IsLooked k reply k')

-- From a point, the line of this number may print this and go on: nothing, that the line is bad, the names of objects,
-- the reply of a step, or what the reader is answered.
abbrev pub Prints : Point → ℕ → Command → List ℕ → Point → Type 0
Prints p number Nothing output q = (output ≡ []) × (q ≡ p)
Prints p number Bad output q = (output ≡ bad_line number) × (q ≡ p)
Prints p number ListNames output q = (output ≡ printed_names (directory_of p.whole.state)) × (q ≡ p)
Prints p number (Asks call) output q = (reply : Reply) × Step p.whole call reply q.whole
    × Looks p.whole.keeper call reply q.whole.keeper × Spares p.held call reply × (q.held ≡ p.held)
    × (output ≡ printed reply) × (q.more ≡ p.more)
Prints p number (Pin id) output q = (answer : Result Descr PinFault)
    × Pins p.whole.state p.held p.looks id answer q.held q.looks
    × (q.whole ≡ p.whole) × (output ≡ printed_pin id answer ++ line_end) × (q.more ≡ p.more)
Prints p number (Unpin id) output q = (done : Bool) × Unpins p.held id done q.held × (q.whole ≡ p.whole)
    × (output ≡ printed_unpin id done ++ line_end) × (q.more ≡ p.more)
Prints p number (ShowCard id) output q = (output ≡ printed_card (shown_of p.whole.state p.held id) ++ line_end)
    × (q.whole ≡ p.whole) × (q.held ≡ p.held) × (q.more ≡ p.more)

-- From there, the lines from this number on may print these, one after another, and end with the last.
abbrev pub Run : Point → ℕ → List (List ℕ) → List (List ℕ) → Point → Type 0
Run s number [] [] t = t ≡ s
Run s number (line ∷ lines) (output ∷ outputs) t = (next : Point)
    × Prints s number (command_of s.more line) output next × Run next (number + 1) lines outputs t
Run s number [] (output ∷ outputs) t = ⊥
Run s number (line ∷ lines) [] t = ⊥

-- lines as they stand in an input
abbrev pub with_ends : List (List ℕ) → List ℕ
with_ends lines = flat_map (λ line. line ++ line_end) lines

-- no byte is a line feed
abbrev pub IsWithin : List ℕ → Type 0
IsWithin line = All (λ byte. byte ≢ 10) line

-- an input is these lines, each with its line feed, and then the beginning of one more
pub record Splits (input : List ℕ) (lines : List (List ℕ)) (rest : List ℕ) : Type 0 where
  pub whole : input ≡ with_ends lines ++ rest
  pub each : All IsWithin lines
  pub open_ended : IsWithin rest

-- what stands behind the last line feed is a line, unless it is empty
abbrev pub last_line : List ℕ → List (List ℕ)
last_line [] = []
last_line (byte ∷ bytes) = (byte ∷ bytes) ∷ []

-- from the one point to the other a run over these lines prints this output
pub record IsOutput (first : Point) (lines : List (List ℕ)) (output : List ℕ) (last : Point) : Type 0 where
  pub outputs : List (List ℕ)
  pub run : Run first 1 lines outputs last
  pub whole : output ≡ concat outputs

-- from this point each complete line of the input is answered, and nothing else
pub record AnswersLines (first : Point) (input output : List ℕ) : Type 0 where
  pub lines : List (List ℕ)
  pub rest : List ℕ
  pub splits : Splits input lines rest
  pub last : Point
  pub answers : IsOutput first lines output last

-- from the one point to the other the whole input is answered, a last line without a line feed too
pub record AnswersTo (first : Point) (input output : List ℕ) (last : Point) : Type 0 where
  pub lines : List (List ℕ)
  pub rest : List ℕ
  pub splits : Splits input lines rest
  pub answers : IsOutput first (lines ++ last_line rest) output last

-- the output is the beginning of an answer to the whole input
pub record AnswersPart (first : Point) (input output : List ℕ) : Type 0 where
  pub missing : List ℕ
  pub last : Point
  pub answers : AnswersTo first input (output ++ missing) last

-- the whole input is answered, from a new manager with these limits and a new reader, with the lines that `--more` adds
-- or without them
abbrev pub AnswersAll : Bool → Limits → List ℕ → List ℕ → Type 0
AnswersAll more limits input output = (first last : Point) × IsOpening more limits first × AnswersTo first input output last

-- how a run is cut short that begins so: after a read fault its complete lines are answered; after a write fault the
-- answer to the input is begun; and where memory was wanting nothing was read or written
abbrev pub IsCut : RunFault → (Point → Type 0) → List ℕ → List ℕ → Type 0
IsCut Read Begins input output = (first : Point) × Begins first × AnswersLines first input output
IsCut Write Begins input output = (first : Point) × Begins first × AnswersPart first input output
IsCut Memory Begins input output = (input ≡ []) × (output ≡ [])

-- how a run over a new manager ended
abbrev pub IsEnded : Result (Unit {0}) RunFault → Bool → Limits → List ℕ → List ℕ → Type 0
IsEnded (Ok unit) more limits input output = AnswersAll more limits input output
IsEnded (Err fault) more limits input output = IsCut fault (IsOpening more limits) input output

-- the same of a script that is in memory as a whole, so that no read can fail
abbrev pub IsWholeEnded : Result (Unit {0}) RunFault → Bool → Limits → List ℕ → List ℕ → Type 0
IsWholeEnded (Ok unit) more limits input output = AnswersAll more limits input output
IsWholeEnded (Err Read) more limits input output = ⊥
IsWholeEnded (Err Write) more limits input output = IsCut Write (IsOpening more limits) input output
IsWholeEnded (Err Memory) more limits input output = output ≡ []

-- the whole input is answered, from a manager to what it has become
abbrev pub GoesOn : Bool → Whole → List ℕ → List ℕ → Whole → Type 0
GoesOn more before input output after = (first last : Point) × Reopens more before first
    × AnswersTo first input output last × (after ≡ last.whole)
