use Rattle.ob_console.proofs.Cited.{◌≡◌, List, ℕ, [], Result, Ok, Err, arith, OnErr, Begins, ConsoleState, IsFed, IsCutShort}
use Rattle.ob_script.specs.declared.output.NotWritten.{NotWritten}
use Rattle.ob_console.proofs.Feeding.{fed_written, fed_cut_short}
use Rattle.ob_console.proofs.console.Console.take.Goals as goal

cut : (r : Result (Unit {0}) NotWritten) (old mid new : ConsoleState) (block before taken later : List ℕ)
    → IsFed old mid block [] before taken → new.point ≡ mid.point → new.held ≡ mid.held → new.lines ≡ mid.lines →
    OnErr r (Begins taken later mid.pending.bytes) → OnErr r (IsCutShort old new block before later)
cut (Ok unit) old mid new block before taken later fed state_is held_is lines_is begins = tt
cut (Err fault) old mid new block before taken later fed state_is held_is lines_is begins =
    search (arith, fed_cut_short)

pub returns-in-Ok-clause-ok : goal.returns-in-Ok-clause-ok
returns-in-Ok-clause-ok g c = search (arith, fed_written)

pub returns-in-Ok-clause-err : goal.returns-in-Ok-clause-err
returns-in-Ok-clause-err g c = search (arith, cut)
