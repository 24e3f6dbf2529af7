-- What stands behind C's pointer to a manager at first.
use Rattle.std.specs.Prelude.{false, []}
use Rattle.ob_store.specs.State.{Whole}
use Rattle.ob_manager.specs.HostData.{HostData}
use Rattle.ob_script.specs.Recording.{recording}
use Rattle.obman_c_base.specs.declared.owned.OwnedManager.{OwnedManager}

-- a manager of whose calls nothing is recorded, with what the host keeps
abbrev pub unrecorded : Whole → HostData → OwnedManager
unrecorded w kept = record { manager = w; recorder = recording [] false; kept = kept }
