-- How the code finds waits in order, and by the slot of an object.
use Rattle.std.specs.Prelude.{◌≡◌, ℕ, ◌+◌, ◌<◌, ◌≤◌, List, Option, None, length, slice_index_or}
use Rattle.pin_core.specs.declared.id.Id.{Id}
use Rattle.ob_waits.specs.declared.wait.Wait.{Wait}
use Rattle.ob_waits.specs.Rules.{WaitsInvariant, Within}
use Rattle.ob_waits.specs.RisingNumbers.{IsOrdered, HasAll, numbers_of, AreOrdered, Thins, ThinsEach}
use Rattle.ob_waits.specs.Waits.{nowhere, is_pending, names_slot}

pub record PendingIndex : Type 0 where
  -- a list that has the numbers of all pending waits
  pub order : List ℕ
  -- for each slot a list that has the numbers of the pending waits for an object there
  pub index : List (List ℕ)

-- the lists have what they must; they may have more
pub record AreIndexed (waits : List (Option Wait)) (order : List ℕ) (index : List (List ℕ)) : Type 0 where
  pub order_rises : IsOrdered (length waits) order
  pub order_all : HasAll is_pending order waits
  pub index_rises : AreOrdered (length waits) index
  pub index_all : (slot : ℕ) → HasAll (names_slot slot) (numbers_of index slot) waits

abbrev pub IsRight : List (Option Wait) → PendingIndex → Type 0
IsRight waits pending_index = AreIndexed waits pending_index.order pending_index.index

-- the lists have the number of a wait for these objects
pub record HasPlace (pending_index : PendingIndex) (ids : List Id) (number : ℕ) : Type 0 where
  pub order_place : Within number pending_index.order
  pub index_place : (i : ℕ) → i < length ids → Within number
      (numbers_of pending_index.index (slice_index_or ids i nowhere).slot)

-- some numbers of waits that are not pending left the lists
pub record ThinsIndex (waits : List (Option Wait)) (old new : PendingIndex) : Type 0 where
  pub order : Thins waits old.order new.order
  pub index : ThinsEach waits old.index new.index

-- what the waits keep
pub record IsTracked (limit : ℕ) (waits : List (Option Wait)) (pending_index : PendingIndex) : Type 0 where
  pub limit_fits : limit < 4294967296
  pub at_most : length waits ≤ limit + 1
  pub zero_has_none : slice_index_or waits 0 None ≡ None
  pub kept : WaitsInvariant waits
  pub right : IsRight waits pending_index
