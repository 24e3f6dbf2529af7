use Rattle.pin_words.proofs.Cited.{◌≡◌, take, shown_from}
use Rattle.pin_words.proofs.locked.shown.Given as goal

abbrev pub invariant-loop-i : goal.invariant-loop-i
invariant-loop-i l = l.published.list ≡ shown_from 0 (take l.i l.slots)
