use Rattle.obman_c.proofs.Told.{tells_as}
use Rattle.obman_c.proofs.handles.om_duplicate.Goals as goal

pub returns : goal.returns
returns c =
    tells_as (rw c.number_at-target.ensures at c.call.ensures) c.tell_opening.ensures.told c.tell_opening.ensures.value
