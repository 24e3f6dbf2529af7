-- How a manager comes to be at a place.
use Rattle.std.specs.Prelude.{◌≡◌, ℕ, Bool, Option, Some}
use Rattle.pin_core.specs.declared.shape.Shape.{Shape}
use Rattle.pin_words.specs.Keepers.{state_of}
use Rattle.pin_words.specs.Seats.{KeeperSeat, TableState}
use Rattle.pin_words.specs.Views.{keeper_gave, opening_keeper}
use Rattle.ob_tables.specs.declared.limits.Limits.{Limits}
use Rattle.ob_store.specs.State.{Whole, opening, shape_of}
use Rattle.ob_manager.specs.HostData.{no_data}
use Rattle.obman_c_base.specs.Owned.{unrecorded}
use Rattle.obman_c_base.specs.declared.owned.OwnedManager.{OwnedManager}
use Rattle.obman_c_base.specs.declared.limits.CLimits.{CLimits}
use Rattle.obman_c_base.specs.Allowed.{AreAllowed, AreAs}

-- a keeper of words, of which nothing was published, and one reader was given
abbrev pub new_keeper : Shape → TableState → KeeperSeat
new_keeper shape t = record { table = t; view = keeper_gave (opening_keeper shape) }

-- a manager over the words t with no process, and with no object in any slot
abbrev pub new_manager : Limits → TableState → Whole
new_manager limits t = record { state = opening limits; keeper = state_of (new_keeper (shape_of limits) t) }

-- and nothing is recorded or kept
abbrev pub new_owned : Limits → TableState → OwnedManager
new_owned limits t = unrecorded (new_manager limits t) no_data

-- A place gets a new manager with these limits, whose numbers come back or not, and which takes a handle twice in a wait
-- for any or not, over words of its own, and 0 is told; or it stays as it is, and 87 is told where a limit is out of its
-- range, else 8, for want of memory.
pub data Opens (reuse repeats : Bool) (b : CLimits) (status : ℕ) (before after : Option OwnedManager) : Type 0 where
  opens : (limits : Limits) (t : TableState) → AreAs b limits → limits.reuse ≡ reuse → limits.repeats ≡ repeats
      → status ≡ 0 → after ≡ Some (new_owned limits t) → Opens reuse repeats b status before after
  outside : (AreAllowed b → ⊥) → status ≡ 87 → after ≡ before → Opens reuse repeats b status before after
  lacks : AreAllowed b → status ≡ 8 → after ≡ before → Opens reuse repeats b status before after
