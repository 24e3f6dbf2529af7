use Rattle.pin_words.proofs.Cited.{◌≡◌, List, ReaderView, AreBusy, HasOnlyLooked}
use Rattle.pin_words.proofs.reader.Reader.pin.Given as goal

abbrev pub invariant-loop : goal.invariant-loop
invariant-loop g l = (l.self.table ≡ l.fn.self.table) × HasOnlyLooked l.fn.self.view l.self.view
    × ((busy : List ReaderView) × AreBusy busy l.fn.self.view l.fn.id l.self.view)
