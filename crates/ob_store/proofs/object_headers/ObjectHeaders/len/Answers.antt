use Rattle.ob_store.proofs.LabelLaws.{objects_length}
use Rattle.ob_store.proofs.object_headers.ObjectHeaders.len.Goals as goal

pub returns : goal.returns
returns c = rw (← c.self.view_is, objects_length) c.len.ensures.value
