-- What each slot is now, as the list of phases says it.
use Rattle.std.specs.Prelude.{Bool, true, false}
use Rattle.ob_arena.specs.declared.phase.Phase.{Phase}
use Rattle.ob_arena.specs.declared.phase.Phase.TheVariants.{Vacant, Occupied, Retired}

abbrev pub is_vacant : Phase → Bool
is_vacant Vacant = true
is_vacant Occupied = false
is_vacant Retired = false

abbrev pub is_occupied : Phase → Bool
is_occupied Vacant = false
is_occupied Occupied = true
is_occupied Retired = false

abbrev pub is_retired : Phase → Bool
is_retired Vacant = false
is_retired Occupied = false
is_retired Retired = true

-- whether the slot may not be given
abbrev pub is_in_use : Phase → Bool
is_in_use Vacant = false
is_in_use Occupied = true
is_in_use Retired = true
