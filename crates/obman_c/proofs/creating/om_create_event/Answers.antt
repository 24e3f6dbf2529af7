use Rattle.obman_c.proofs.Told.{tells_as}
use Rattle.obman_c.proofs.creating.om_create_event.Goals as goal

pub returns : goal.returns
returns c =
    tells_as (rw c.make_of-make.ensures at c.call.ensures) c.tell_opening.ensures.told c.tell_opening.ensures.value
