use Rattle.ob_console.proofs.Cited.{◌≡◌, All, take, FitsEntry, script_of}
use Rattle.ob_console.proofs.retelling.script_of.Given as goal

abbrev pub invariant-loop-entry : goal.invariant-loop-entry
invariant-loop-entry l = (l.record ≡ script_of (take l.entry-index l.journal))
    × All FitsEntry (take l.entry-index l.journal)
