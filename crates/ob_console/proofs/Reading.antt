-- A run between two reads, and how it ends.
use Rattle.ob_console.proofs.Cited.{arith, ◌≡◌, ℕ, Bool, List, [], ◌++◌, Result, Ok, Err, refl, IsErrOf, append_assoc, append-nil, Point, AnswersTo, AnswersLines, AnswersPart, IsCut, IsEnded, IsOpening, IsWholeEnded, Writes, Begins, ConsoleState, IsReady, Session, IsFed, IsCutShort, Finishes, Ends}
use Rattle.ob_tables.specs.declared.limits.Limits.{Limits}
use Rattle.ob_console.specs.declared.script.RunFault.{RunFault}
use Rattle.ob_console.specs.declared.script.RunFault.TheVariants.{Memory, Read, Write}
use Rattle.ob_console.proofs.Advancing.{answers_lines, answers_part, session_begins}

-- what was read is answered line by line, and the answers are written
pub record IsReading (first : Point) (console : ConsoleState)
    (given_before given taken_before taken : List ℕ) : Type 0 where
  pub input : List ℕ
  pub output : List ℕ
  pub read : given ≡ given_before ++ input
  pub wrote : taken ≡ taken_before ++ output
  pub session : Session first input output console

-- what a run did of its input and output
abbrev pub HasRun : (List ℕ → List ℕ → Type 0) → List ℕ → List ℕ → List ℕ → List ℕ → Type 0
HasRun P given_before given taken_before taken = (input output : List ℕ) × (given ≡ given_before ++ input)
    × (taken ≡ taken_before ++ output) × P input output

pub reading_begins : (console : ConsoleState) (given taken : List ℕ) → IsReady console
    → IsReading console.point console given given taken taken
reading_begins console given taken ready = search (arith, append-nil, session_begins)

module _ {first : Point} {console : ConsoleState} {given_before given taken_before taken : List ℕ}
    (reading : IsReading first console given_before given taken_before taken) where
  -- a read gave nothing
  pub reading_same : (more : List ℕ) → more ≡ given ++ [] → IsReading first console given_before more taken_before taken
  reading_same more read = search (arith, append-nil)

  -- reading ends by a fault
  pub reading_fails : HasRun (AnswersLines first) given_before given taken_before taken
  reading_fails = search (arith, answers_lines)

  module _ (empty : console.pending.bytes ≡ []) {more later : List ℕ} where
    -- a read gave a block, which is answered
    pub reading_on : {new : ConsoleState} {block : List ℕ} → more ≡ given ++ block → new.pending.bytes ≡ []
        → IsFed console new block [] taken later → IsReading first new given_before more taken_before later
    reading_on read done fed = search (arith, append_assoc, append-nil)

    -- writing fails in a block
    pub writing_fails : {new : ConsoleState} {block : List ℕ} → more ≡ given ++ block
        → IsCutShort console new block taken later → HasRun (AnswersPart first) given_before more taken_before later
    writing_fails read short =
        let session = short.advances first reading.input reading.output reading.session in (
          (reading.input ++ short.front) ++ short.rest,
          reading.output ++ short.written.1.done,
          search (arith, append_assoc),
          search (arith, append_assoc),
          answers_part first _ _ _ short.written.0 short.rest _ (search (arith, append_assoc)) session,
        )

    module _ {printed : List ℕ} {last : Point} (read : more ≡ given ++ [])
        (finishes : Finishes console printed last) where
      -- the input ends
      pub reading_ends : Writes taken later (console.pending.bytes ++ printed) []
          → HasRun (λ input output. AnswersTo first input output last) given_before more taken_before later
      reading_ends writes = search (arith, append_assoc, append-nil)

      -- writing fails at the end
      pub ending_fails : Begins taken later (console.pending.bytes ++ printed)
          → HasRun (AnswersPart first) given_before more taken_before later
      ending_fails begins =
          let part : AnswersPart first reading.input (reading.output ++ begins.1.done) =
          record { missing = begins.0; last = last; answers = search (arith, append_assoc) } in
          search (arith, append-nil, append_assoc, part)

-- a whole script came as one block
pub reading_whole : {old new : ConsoleState} {script taken later : List ℕ} → IsReady old → new.pending.bytes ≡ []
    → IsFed old new script [] taken later → IsReading old.point new [] script taken later
reading_whole ready done fed = reading_on (reading_begins _ [] _ ready) ready.pending refl done fed

-- it is answered, or the beginning of its answers is written
pub answered : {P : List ℕ → List ℕ → Type 0} {script : List ℕ} (taken_before : List ℕ) {taken : List ℕ}
    → HasRun P [] script taken_before taken → (output : List ℕ) × (taken ≡ taken_before ++ output) × P script output
answered taken_before run = (run.1, run.3, rw run.2 run.4)

-- a run that is cut short, by how it began
pub cut_from : (fault : RunFault) (Begins : Point → Type 0) (first last : Point) (input output : List ℕ)
    → Begins first → Ends (Err fault) first input output last → IsCut fault Begins input output
cut_from Memory Begins first last input output begins ends = absurd ends
cut_from fault Begins first last input output begins ends = (first, begins, ends)

pub run_ended : (r : Result (Unit {0}) RunFault) (more : Bool) (limits : Limits) (first last : Point) (input output : List ℕ)
    → IsOpening more limits first → Ends r first input output last → IsEnded r more limits input output
run_ended (Ok unit) more limits first last input output opens ends = (first, last, opens, ends)
run_ended (Err fault) more limits first last input output opens ends = search (arith, cut_from)

pub whole_ended : (r : Result (Unit {0}) RunFault) (more : Bool) (limits : Limits) (first last : Point) (input output : List ℕ)
    → (IsErrOf r Read → ⊥) → IsOpening more limits first → Ends r first input output last → IsWholeEnded r more limits input output
whole_ended (Ok unit) more limits first last input output none opens ends = (first, last, opens, ends)
whole_ended (Err Read) more limits first last input output none opens ends = absurd (none refl)
whole_ended (Err Write) more limits first last input output none opens ends = (first, opens, ends)
whole_ended (Err Memory) more limits first last input output none opens ends = absurd ends
