-- What callers see of a table and of its seats: which table it is, with its shape, and what the seat knows.
use Rattle.std.specs.Prelude.{List}
use Rattle.atomic_table.specs.Seated.{TableId}
use Rattle.pin_core.specs.declared.shape.Shape.{Shape}
use Rattle.pin_core.specs.declared.world.Slot.{Slot}
use Rattle.pin_words.specs.declared.view.KeeperView.{KeeperView}
use Rattle.pin_words.specs.declared.view.ReaderView.{ReaderView}

-- which words a seat is of: the identity that the base crate gives them, with the shape, so that a reader and a keeper
-- of one table have one shape
pub record TableState : Type 0 where
  pub id : TableId
  pub shape : Shape

-- a table, and the slots that it begins with
pub record ReopeningState : Type 0 where
  pub table : TableState
  pub slots : List Slot

abbrev pub reopening : TableId → Shape → List Slot → ReopeningState
reopening id shape slots = record { table = record { id = id; shape = shape }; slots = slots }

pub record ReaderState : Type 0 where
  pub table : TableState
  pub view : ReaderView

pub record KeeperSeat : Type 0 where
  pub table : TableState
  pub view : KeeperView
