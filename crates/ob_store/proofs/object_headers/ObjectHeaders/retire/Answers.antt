use Rattle.std.proofs.Common.{arith}
use Rattle.ob_store.proofs.HeaderLaws.{vacant_same}
use Rattle.ob_store.proofs.object_headers.ObjectHeaders.retire.Goals as goal

pub retire-requires : goal.retire-requires
retire-requires c = search (arith, vacant_same, rw (← c.self.view_is) at c.requires)
