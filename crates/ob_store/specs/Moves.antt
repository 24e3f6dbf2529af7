-- What a change of the store says of the keeper.
use Rattle.std.specs.Prelude.{◌≡◌, ℕ, Bool, Option, Some, None, if◌then◌else◌}
use Rattle.pin_words.specs.Keepers.{KeeperState}
use Rattle.pin_words.specs.declared.pin_keeper.Reclaim.{Reclaim}
use Rattle.pin_words.specs.declared.pin_keeper.Reclaim.TheVariants as outcome
use Rattle.ob_name.specs.Names.{ObjectName}
use Rattle.ob_name.specs.Listing.{Rows, without_name}
use Rattle.ob_store.specs.Objects.{opened}
use Rattle.ob_store.specs.State.{State, freed, given_up}

-- nothing of the keeper changed but that slots close: which, the state says, where objects have no body any more
abbrev pub OnlyCloses : KeeperState → KeeperState → Type 0
OnlyCloses old new = opened new ≡ opened old

-- what an ended object's slot is reclaimed to
abbrev pub after_reclaim : State → ℕ → Reclaim → State
after_reclaim s slot outcome.Freed = freed s slot
after_reclaim s slot outcome.Retired = given_up s slot
after_reclaim s slot (outcome.Held n) = s

-- the names once a handle of an object has left: with the last one its name leaves
abbrev pub rows_without : Rows → Option ObjectName → Rows
rows_without rows None = rows
rows_without rows (Some name) = without_name name rows

abbrev pub rows_left : Rows → Bool → Option ObjectName → Rows
rows_left rows was_last name = if was_last then rows_without rows name else rows
