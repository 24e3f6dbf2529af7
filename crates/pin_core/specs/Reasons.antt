-- The numbers of the reasons why an event isn't possible.
use Rattle.std.specs.Prelude.{ℕ}
use Rattle.pin_core.specs.declared.event.Reason.{Reason}
use Rattle.pin_core.specs.declared.event.Reason.TheVariants.{NoSlot, WrongPhase, WordDiffers, PinsFull, NotHeld, Pinned, DescrDiffers}

abbrev pub number_of : Reason → ℕ
number_of NoSlot = 1
number_of WrongPhase = 2
number_of WordDiffers = 3
number_of PinsFull = 4
number_of NotHeld = 5
number_of Pinned = 6
number_of DescrDiffers = 7
