use Rattle.ob_store.proofs.Cited.{None, arith, owner_stands}
use Rattle.ob_store.proofs.ByPlace.{all_from}
use Rattle.ob_store.proofs.checking_waits.owners_stand.Goals as goal

pub returns : goal.returns
returns c = search (arith, all_from (owner_stands c.args.processes.now.threads) c.args.objects.now.seen.bodies None, c.loop-slot.invariant)
