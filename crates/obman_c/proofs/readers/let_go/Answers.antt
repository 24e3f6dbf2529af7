use Rattle.obman_c.proofs.Read.{fewer}
use Rattle.obman_c.proofs.readers.let_go.Goals as goal

pub loop-id-smaller : goal.loop-id-smaller
loop-id-smaller c = rw c.release.ensures.view (fewer c.in-Some.id c.loop-id.reader.view.held
    (rw c.held.ensures at c.in-Some.ensures.is_there))
