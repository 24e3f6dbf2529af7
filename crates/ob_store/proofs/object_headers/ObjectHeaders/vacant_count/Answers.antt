use Rattle.ob_store.proofs.HeaderLaws.{count_same}
use Rattle.ob_store.proofs.object_headers.ObjectHeaders.vacant_count.Goals as goal

pub returns : goal.returns
returns c = rw (← c.self.view_is, ← count_same c.self.inside.arena _) c.vacant_count.ensures
