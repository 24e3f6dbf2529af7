use Rattle.pin_words.specs.Places.{AreLaid}
use Rattle.pin_words.proofs.places.lay_all.Given as goal

abbrev pub invariant-loop-i : goal.invariant-loop-i
invariant-loop-i l = AreLaid l.slots l.i l.words.items
