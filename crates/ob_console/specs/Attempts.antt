-- A try to pin, and the descriptor that is read where it is pinned.
use Rattle.std.specs.Prelude.{◌≡◌, ◌<◌, Result, Ok, Err}
use Rattle.pin_core.specs.declared.id.Id.{Id}
use Rattle.pin_core.specs.declared.descr.Descr.{Descr}
use Rattle.pin_core.specs.Holds.{tally, same_id}
use Rattle.pin_words.specs.declared.fault.PinFault.{PinFault}
use Rattle.pin_words.specs.declared.view.ReaderView.{ReaderView}
use Rattle.pin_words.specs.Tries.{Tries}
use Rattle.pin_words.specs.Views.{reader_noted}

-- what follows the try
abbrev pub Told : Result (Unit {0}) PinFault → ReaderView → Id → Result Descr PinFault → ReaderView → Type 0
Told (Ok unit) r id res r' = (d : Descr) × (res ≡ Ok d) × (r' ≡ reader_noted r id d) × (0 < tally (same_id id) r.held)
Told (Err fault) r id res r' = (res ≡ Err fault) × (r' ≡ r)

pub record Attempts (r : ReaderView) (id : Id) (res : Result Descr PinFault) (r' : ReaderView) : Type 0 where
  pub tried : Result (Unit {0}) PinFault
  pub middle : ReaderView
  pub tries : Tries r id tried middle
  pub told : Told tried middle id res r'
