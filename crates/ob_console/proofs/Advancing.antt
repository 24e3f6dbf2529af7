-- A console advances line by line, and what it has written is the beginning of an answer to its input.
use Rattle.ob_console.proofs.Cited.{◌≡◌, ℕ, ◌+◌, List, [], ◌∷◌, ◌++◌, length, Some, refl, subst, arith, concat, append_assoc, append-nil, length-append, Command, command_of, line_end, Point, Prints, Run, IsWithin, AnswersLines, AnswersPart, last_line, ConsoleState, IsReady, Session, Advances, Finishes}
use Rattle.std.proofs.lemmas.List.Folds.{concat-append}
use Rattle.ob_script.specs.PartialLines.{capped, extended_line, command_of_partial_line}
use Rattle.ob_script.proofs.Texts.{command_of_capped, more_capped}
use Rattle.ob_console.proofs.Lines.{has_lines, splits_more, splits_nothing, splits_on, splits_one}
use Rattle.ob_console.proofs.Going.{run-append, run_shape, runs_some}

-- a line ends
pub line_advances : (old new : ConsoleState) (act : Command) (bytes output : List ℕ) → IsWithin bytes
    → act ≡ command_of_partial_line old.point.more (extended_line old.held bytes)
    → Prints old.point (old.lines + 1) act output new.point
    → new.lines ≡ old.lines + 1 → new.held ≡ Some [] → Advances old (bytes ++ line_end) output new
line_advances old new act bytes output within is prints counted held first input before session =
    let line = session.rest ++ bytes in
    let of_line : Prints old.point (1 + length session.lines) (command_of old.point.more line) output new.point =
    search (arith, command_of_capped, more_capped) in
    record {
      lines = session.lines ++ line ∷ [];
      rest = [];
      pins = session.pins;
      outputs = session.outputs ++ output ∷ [];
      splits = search (arith, splits_on, splits_one);
      run = run-append first 1 session.lines session.outputs old.point (line ∷ [])
          (output ∷ []) new.point session.run (new.point, of_line, refl);
      whole = search (arith, append-nil, concat-append);
      counted = search (arith, length-append);
      held = held;
    }

-- a part of a line comes
pub part_advances : (old new : ConsoleState) (bytes : List ℕ) → IsWithin bytes → new.point ≡ old.point
    → new.lines ≡ old.lines → new.held ≡ extended_line old.held bytes → Advances old bytes [] new
part_advances old new bytes within state_is lines_is held_is first input before session =
    let more = splits_more input session.lines session.rest bytes within session.splits in
    search (arith, append-nil, more_capped, more)

-- one advance after another
pub advances_on : (a b c : ConsoleState) (bytes second output more : List ℕ) → Advances a bytes output b
    → Advances b second more c → Advances a (bytes ++ second) (output ++ more) c
advances_on a b c bytes second output more one two first input before session = search (arith, append_assoc)

-- nothing comes
pub advances_none : (a : ConsoleState) → Advances a [] [] a
advances_none a first input before session = search (arith, append-nil)

-- a console of which no line has come
pub session_begins : (console : ConsoleState) → IsReady console → Session console.point [] [] console
session_begins console ready = search (arith, splits_nothing)

-- the complete lines are answered
pub answers_lines : (first : Point) (input output : List ℕ) (console : ConsoleState)
    → Session first input output console → AnswersLines first input output
answers_lines first input output console session =
    record { lines = session.lines; rest = session.rest; splits = session.splits; last = console.point; answers = search arith }

-- whatever comes, the output is the beginning of an answer
pub answers_part : (first : Point) (input output done missing more : List ℕ) (console : ConsoleState)
    → done ++ missing ≡ output → Session first input output console → AnswersPart first (input ++ more) done
answers_part first input output done missing more console part session =
    let behind = has_lines (session.rest ++ more) in
    let on = runs_some console.point (1 + length session.lines) (behind.lines ++ last_line behind.rest)
    (rw (run_shape first 1 session.lines session.outputs console.point session.run) session.pins) in
    record {
      missing = missing ++ concat on.0;
      last = on.1;
      answers = record {
        lines = session.lines ++ behind.lines;
        rest = behind.rest;
        splits = splits_on input session.lines session.rest more behind.lines behind.rest session.splits behind.splits;
        answers = search (arith, append_assoc, concat-append, run-append);
      };
    }

-- where nothing is held, the whole input is answered
pub finishes_empty : (console : ConsoleState) → console.held ≡ Some [] → Finishes console [] console.point
finishes_empty console held first input before session = search (arith, append-nil)

-- a last line without a line feed
pub finishes_line : (old : ConsoleState) (last : Point) (output : List ℕ) → (old.held ≡ Some [] → ⊥)
    → Prints old.point (old.lines + 1) (command_of_partial_line old.point.more old.held) output last → Finishes old output last
finishes_line old last output some prints first input before session =
    let of_line : Prints old.point (1 + length session.lines) (command_of old.point.more session.rest) output last =
    search (arith, command_of_capped) in
    record {
      lines = session.lines;
      rest = session.rest;
      splits = session.splits;
      answers = record {
        outputs = session.outputs ++ output ∷ [];
        run = subst (λ more. Run first 1 (session.lines ++ more) (session.outputs ++ output ∷ []) last)
            (is_last session.rest session.held)
            (run-append first 1 session.lines session.outputs old.point (session.rest ∷ [])
            (output ∷ []) last session.run (last, of_line, refl));
        whole = search (arith, append-nil, concat-append);
      };
    }
  where
    is_last : (rest : List ℕ) → old.held ≡ capped rest → rest ∷ [] ≡ last_line rest
    is_last [] is = absurd (some is)
    is_last (byte ∷ rest) is = refl
