use Rattle.ob_store.proofs.Cited.{arith, length-replicate, map-replicate}
use Rattle.ob_store.proofs.ByPlace.{replicate_at}
use Rattle.ob_store.proofs.HeaderLaws.{places_vacant}
use Rattle.ob_store.proofs.OwnerLaws.{owned_none}
use Rattle.ob_store.proofs.object_headers.ObjectHeaders.new.Goals as goal

pub returns : goal.returns
returns c = rw c.in_ok-new.ensures (places_vacant c.args.slots _)

pub invariant_of-result : goal.invariant_of-result
invariant_of-result c = rw c.in_ok-new.ensures (search (arith, owned_none, replicate_at, length-replicate, map-replicate))
