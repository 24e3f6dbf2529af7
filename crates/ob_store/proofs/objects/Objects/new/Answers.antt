use Rattle.ob_store.proofs.OpeningLaws.{tied_opening}
use Rattle.ob_store.proofs.objects.Objects.new.Goals as goal

pub invariant_of-result : goal.invariant_of-result
invariant_of-result g c = rw c.in-Ok.ensures (tied_opening c.args.slots
    (g.K.PinKeeper.kept c.args.keeper) c.requires.fresh c.requires.slots c.requires.most c.requires.first
    c.requires.last)
