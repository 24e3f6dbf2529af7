-- What C is given of a save, and told of a load.
use Rattle.std.specs.Prelude.{◌≡◌, ℕ, List, Option, Some, Ok, Err, true, is_ok}
use Rattle.ob_codec.specs.declared.fault.TextFault.{TextFault}
use Rattle.ob_codec.specs.Sealing.{unsealed}
use Rattle.pin_core.specs.declared.shape.Shape.{Shape}
use Rattle.pin_core.specs.declared.world.Slot.{Slot}
use Rattle.pin_words.specs.Keepers.{state_of}
use Rattle.pin_words.specs.Seats.{KeeperSeat, TableState}
use Rattle.pin_words.specs.Views.{keeper_gave, keeper_with_slots}
use Rattle.ob_store.specs.State.{Whole, shape_of}
use Rattle.ob_manager.specs.HostData.{HostData}
use Rattle.ob_manager.specs.Savestates.{load_with, saved_with}
use Rattle.obman_c_base.specs.Owned.{unrecorded}
use Rattle.obman_c_base.specs.declared.owned.OwnedManager.{OwnedManager}

-- the savestate of a manager with what the host keeps
abbrev pub saved_of : OwnedManager → List ℕ
saved_of held = saved_with held.kept held.manager

-- a keeper of words that begins with some slots, and gave one reader
abbrev pub keeper_over : Shape → List Slot → TableState → KeeperSeat
keeper_over shape slots t = record { table = t; view = keeper_gave (keeper_with_slots shape slots) }

-- the manager that was loaded, over words t, with what the host kept, and nothing is recorded
abbrev pub loaded_owned : Whole → HostData → TableState → OwnedManager
loaded_owned w kept t =
    unrecorded (record w { keeper = state_of (keeper_over (shape_of w.state.limits) w.keeper.slots t) }) kept

-- A place gets the manager of a savestate, and 0 is told; or it stays as it is, and 13 is told where the bytes are no
-- savestate, else 8, for want of memory, and never where the digest is wrong.
pub data Loads (bytes : List ℕ) (status : ℕ) (before after : Option OwnedManager) : Type 0 where
  loads : (w : Whole) (kept : HostData) (t : TableState) → load_with bytes ≡ Ok (w, kept) → status ≡ 0
      → after ≡ Some (loaded_owned w kept t)
      → Loads bytes status before after
  wrong : (fault : TextFault) → load_with bytes ≡ Err fault → status ≡ 13 → after ≡ before
      → Loads bytes status before after
  lacks : is_ok (unsealed bytes) ≡ true → status ≡ 8 → after ≡ before → Loads bytes status before after
